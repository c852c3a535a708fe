-- An event that was found is the one that its layout reads.
use mathlib.Core.Path.{◌≡◌, refl, ◌∙◌}
use Prim.Native.Nat.{ℕ, ◌≤◌}
use native.Mathlib.Omega.{arith}
use mathlib.Core.List.{List}
use lib.ListN.{length, length-take, length-drop}
use Rattle.refusal.specs.Outcome.{Outcome, ok, refused, on_ok, and_then}
use Rattle.parser.specs.Parser.{Parser, done, Parsed, short, parsed, parse, bytes, remaining, ◌>>=◌}
use Rattle.parser.specs.Call.{onward, outcome, single, part_at}
use Rattle.parser.proofs.Prefix.{after, parse_bind}
use Rattle.parser.proofs.Answered.{part_then}
use Rattle.event_record.specs.Event.{Event}
use Rattle.event_record.specs.Places.{event_at, places_of, find_by}
use Rattle.event_record.specs.declared.Lists.{Lists}
use Rattle.event_record.specs.declared.Places.{Places}

-- at its places stands the event that the layout reads
abbrev pub Holds : Parser (Event × Lists) → Type 0
Holds layout = (s : List ℕ) (at : ℕ) (v : Event × Lists) (next : ℕ) → parse layout s at ≡ parsed v next → event_at s (places_of at v next) ≡ v.0

-- the event at its places, and the place after it
abbrev pub event_and_next : List ℕ → Places → Event × ℕ
event_and_next s p = (event_at s p, p.next)

-- the event of a layout
abbrev pub event_by : Parser (Event × Lists) → Parser Event
event_by layout = layout >>= λ v. done v.0

module _ (layout : Parser (Event × Lists)) (holds : Holds layout) (s : List ℕ) (at : ℕ) where
  pub found_by : on_ok (event_and_next s) (find_by layout at s) ≡ part_at 3 at (event_by layout) s
  unfolding find_by outcome part_at parse
  found_by = rw (parse_bind layout (λ v. done v.0) s at) (go (parse layout s at) refl)
    where
      go : (o : Parsed (Event × Lists)) → parse layout s at ≡ o
          → on_ok (event_and_next s) (onward 3 o (λ v next. ok (places_of at v next))) ≡ onward 3 (after o (λ v next. parsed v.0 next)) (λ e next. ok (e, next))
      go short e = refl
      go (parsed v next) e = rw (holds s at v next e)

  -- so a call of one part goes by what was found
  pub call_by : {A : Type 0} (f : Event → ℕ → Outcome A) → and_then (find_by layout at s) (λ p. f (event_at s p) p.next) ≡ outcome (single 3 at (event_by layout) f) s
  call_by f = map-then (find_by layout at s) ∙ rw found_by (part_then 3 at (event_by layout) f s)
    where
      map-then : (o : Outcome Places) → and_then o (λ p. f (event_at s p) p.next) ≡ and_then (on_ok (event_and_next s) o) (λ v. f v.0 v.1)
      map-then (ok p) = refl
      map-then (refused n carries) = refl

-- a preamble that is there has its length
pub there : (s : List ℕ) (at n : ℕ) → n ≤ remaining s at → length (bytes s at n) ≡ n
there s at n h = simp (length-take, length-drop) (omega arith)
