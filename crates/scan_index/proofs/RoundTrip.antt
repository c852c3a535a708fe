-- L3: an entry that was written reads back, and one that was read writes back to its own bytes.
use Rattle.std.specs.Prelude.{Result}
use mathlib.Core.Path.{◌≡◌, refl}
use Prim.Native.Nat.{ℕ, ◌+◌, ◌-◌, ◌^◌, ◌≤◌}
use native.Mathlib.Omega.{arith}
use mathlib.Core.Bool.{Bool, true, false, ◌||◌}
use mathlib.Core.List.{List, ◌++◌}
use lib.Dec.{leb, ltb}
use lib.ListN.{length, drop}
use borrow.Author.Tests.{le-leb, leb-true, lt-ltb, ltb-true}
use Rattle.refusal.specs.Outcome.{ok}
use Rattle.refusal.specs.Number.{outcome_of}
use Rattle.refusal.specs.declared.Refusal.{Refusal}
use Rattle.lists.specs.Left.{LeftListBy}
use Rattle.lists.proofs.Cases.{false_not_true}
use Rattle.lists.proofs.Left.{wrote}
use Rattle.parser.specs.Parser.{bytes, word_at}
use Rattle.parser.specs.Call.{outcome}
use Rattle.parser.specs.LongerBytes.{Bytes}
use Rattle.parser.proofs.Answered.{found}
use Rattle.parser.proofs.Records.{sized_read}
use Rattle.layout.specs.Layout.{written}
use Rattle.layout.proofs.Conditions.{Holds, Returns, Keeps, SkippedZero as Skipped}
use Rattle.layout.proofs.ReadsBack.{reads_back}
use Rattle.layout.proofs.WritesBack.{Stands, writes_back}
use Rattle.writer.proofs.Writing.{held_ok, written_in}
use Rattle.scan_index.specs.Entry.{layout, entry_layout, entry, entry_size, read_entry, write_entry}
use Rattle.scan_index.specs.RoundTrip.{Typed, SkippedZero}
use Rattle.scan_index.specs.declared.ScanIndexEntry.{ScanIndexEntry}
use Rattle.scan_index.proofs.Size.{entry_sized}

-- what the law on layouts asks of an entry
held : (wide long : Bool) (e : ScanIndexEntry) → Typed e → (wide || ltb e.offset (2 ^ 32)) ≡ true → Holds (layout wide long) e
unfolding layout
held true true e t h = (t.index, (t.event, (t.segment, (t.size, (t.time, (t.current, (t.intensity, (t.base, (t.low, (t.high, (t.offset, tt)))))))))))
held true false e t h = (t.index, (t.event, (t.segment, (t.size, (t.time, (t.current, (t.intensity, (t.base, (t.low, (t.high, (t.offset, tt)))))))))))
held false true e t h = (ltb-true _ _ h, (t.index, (t.event, (t.segment, (t.size, (t.time, (t.current, (t.intensity, (t.base, (t.low, (t.high, tt)))))))))))
held false false e t h = (ltb-true _ _ h, (t.index, (t.event, (t.segment, (t.size, (t.time, (t.current, (t.intensity, (t.base, (t.low, (t.high, tt)))))))))))

returns : (wide long : Bool) (e : ScanIndexEntry) → Returns (layout wide long) e e
unfolding layout
returns true true e = refl
returns true false e = refl
returns false true e = refl
returns false false e = refl

keeps : (wide long : Bool) → Keeps (λ e. e) (layout wide long) (λ _. Unit {0})
unfolding layout
keeps true true = λ _ _ _ _ _ _ _ _ _ _ _. search refl
keeps true false = λ _ _ _ _ _ _ _ _ _ _ _. search refl
keeps false true = λ _ _ _ _ _ _ _ _ _ _ _. search refl
keeps false false = λ _ _ _ _ _ _ _ _ _ _ _. search refl

-- the skipped bytes of the layout are those words
skipped_by : (wide long : Bool) (s : List ℕ) (at : ℕ) → word_at s (at + 12) 8 ≡ 0 → (wide ≡ true → word_at s at 4 ≡ 0)
    → (long ≡ true → (wide ≡ true) × (word_at s (at + 80) 8 ≡ 0)) → Skipped (layout wide long) s at
unfolding layout
skipped_by true true s at a b c =
    let p : at + 4 + 4 + 2 + 2 ≡ at + 12 = omega arith in
    let q : at + 4 + 4 + 2 + 2 + 8 + 4 + 8 + 8 + 8 + 8 + 8 + 8 + 8 ≡ at + 80 = omega arith in
    (b refl, (rw p a, (rw q (c refl).1, tt)))
skipped_by true false s at a b c =
    let p : at + 4 + 4 + 2 + 2 ≡ at + 12 = omega arith in
    (b refl, (rw p a, tt))
skipped_by false true s at a b c = false_not_true (c refl).0
skipped_by false false s at a b c =
    let p : at + 4 + 4 + 2 + 2 ≡ at + 12 = omega arith in
    (rw p a, tt)

skipped : (version : ℕ) (s : List ℕ) (at : ℕ) → SkippedZero version s at → Skipped (entry_layout version) s at
skipped version s at z =
    skipped_by (leb 64 version) (leb 66 version) s at z.skipped (λ h. z.offset32 (leb-true 64 version h))
    (λ h. let l : 66 ≤ version = leb-true 66 version h in (le-leb 64 version (omega arith), z.last l))

-- an offset that was read fits where it stood
offset_held : (wide long : Bool) (e : ScanIndexEntry) → Holds (layout wide long) e → (wide || ltb e.offset (2 ^ 32)) ≡ true
unfolding layout
offset_held true long e h = refl
offset_held false true e h = lt-ltb _ _ h.0
offset_held false false e h = lt-ltb _ _ h.0

-- What a call wrote that was not refused reads back, wherever the slice stands in a run and whatever follows it
pub entry_reads_back : (version : ℕ) (e : ScanIndexEntry) → Typed e → (xs ys : List ℕ) (r : Result ℕ Refusal) (n : ℕ) → LeftListBy (write_entry version e) xs r ys → outcome_of r ≡ ok n
    → (run : List ℕ) (at : ℕ) (more : List ℕ) → drop at run ≡ ys ++ more → read_entry version at run ≡ ok e
unfolding write_entry read_entry outcome
entry_reads_back version e t xs ys r n l h run at more there =
    let w = wrote (rw h at l) in
    let o = held_ok (leb 64 version || ltb e.offset (2 ^ 32)) (leb (entry_size version) (length xs)) (written (entry_layout version) e) w.is in
    let bs = written (entry_layout version) e in
    let here = written_in run at xs ys more w.value bs there w.written o.2 in
    rw (reads_back (entry_layout version) e e run at (drop (length bs) xs ++ more) (held (leb 64 version) (leb 66 version) e t o.0) (returns (leb 64 version) (leb 66 version) e) here)

stands_by : (version : ℕ) (run : List ℕ) (at next : ℕ) (e v : ScanIndexEntry) → next ≡ at + entry_size version → e ≡ v → Stands (entry_layout version) v run at next
    → Stands (entry_layout version) e run at (at + entry_size version)
stands_by version run at next e v n is s = rw (is, ← n) s

-- the entry that was read
module _ (version : ℕ) (run : List ℕ) (is_bytes : Bytes run) (at : ℕ) {e : ScanIndexEntry} (h : ok e ≡ read_entry version at run) where
  stands : Stands (entry_layout version) e run at (at + entry_size version)
  unfolding read_entry
  stands =
      let f = found 2 at (entry version) (λ e _. e) run h in
      let next : f.next ≡ at + entry_size version = (sized_read (entry_size version) (entry version) (entry_sized version) run at f.there).2 in
      stands_by version run at f.next e f.value next f.made (writes_back (λ x. x) (entry_layout version) (λ _. Unit {0}) run at f.next f.value (keeps (leb 64 version) (leb 66 version)) is_bytes f.there).1

  -- An entry that was read is never refused 10
  pub entry_held : (leb 64 version || ltb e.offset (2 ^ 32)) ≡ true
  entry_held = offset_held (leb 64 version) (leb 66 version) e stands.held

  -- An entry that was read at any place of any run writes back to the run's bytes there, if its skipped words were zero
  pub entry_writes_back : SkippedZero version run at → (room : ℕ) → entry_size version ≤ room → write_entry version e room ≡ ok (bytes run at (entry_size version))
  unfolding write_entry
  entry_writes_back z room l =
      let size : at + entry_size version - at ≡ entry_size version = omega arith in
      rw (entry_held, le-leb _ _ l, stands.same (skipped version run at z), size)
