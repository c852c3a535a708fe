-- A record that is held and slices that hold its lists: what is written of them, and how long it is.
use Rattle.std.specs.Prelude.{Ok, Err}
use mathlib.Core.Path.{◌≡◌, sym, ◌∙◌}
use mathlib.Core.Logic.{⊎_elim}
use Prim.Native.Nat.{ℕ, ◌+◌, ◌*◌, ◌^◌, ◌<◌}
use native.Mathlib.Omega.{arith}
use mathlib.Core.Bool.{Bool, true, false}
use mathlib.Core.List.{List, [], ◌∷◌}
use lib.Dec.{ltb, eqb}
use lib.ListN.{length, take, length-take}
use lib.Seq.{sets}
use borrow.Author.Tests.{ltb-true, eqb-true}
use Rattle.std.specs.List.{zip}
use Rattle.std.proofs.lemmas.Slice.Zip.{length-zip}
use Rattle.refusal.specs.declared.Refusal.TheVariants.{NoRoom}
use Rattle.lists.specs.Filter.{all}
use Rattle.lists.specs.Left.{fits, LeftListBy}
use Rattle.lists.proofs.Cases.{bool_cases, and_true, false_not_true}
use Rattle.lists.proofs.Left.{fits_true, left_refused, left_written}
use Rattle.layout.specs.Layout.{written}
use Rattle.writer.proofs.Stores.{sets_over}
use Rattle.event_preamble.specs.Size.{size_for_version}
use Rattle.event_record.specs.declared.ScanEvent.{ScanEvent}
use Rattle.event_before_66.specs.Layout.{layout_before_66}
use Rattle.event_before_66.proofs.Stages.{size_most}
use Rattle.event_bytes.specs.Write.{codes_given, activation_given, window_given, held_before_66, window_in, as_event, write_if_fits}
use Rattle.event_bytes.specs.Internal.{Small}
use Rattle.event_bytes.proofs.Bytes.{event_size}

-- each test of a record that is held
pub record Held (version : ℕ) (e : ScanEvent) (preamble precursors : List ℕ) : Type 0 where
  pub before : version < 66
  pub bytes : e.preamble_len ≡ size_for_version version
  pub codes : codes_given e preamble ≡ true
  pub activation : activation_given e preamble precursors ≡ true
  pub window : window_given e.window e.low_mz e.high_mz ≡ true
  pub reactions : e.reactions < 2 ^ 32
  pub coefficients : e.coefficients < 2 ^ 32

pub held : (version : ℕ) (e : ScanEvent) (preamble precursors : List ℕ) → held_before_66 version e preamble precursors ≡ true → Held version e preamble precursors
held version e preamble precursors h =
    let g : List Bool = ltb e.coefficients (2 ^ 32) ∷ [] in
    let f : List Bool = ltb e.reactions (2 ^ 32) ∷ g in
    let w : List Bool = window_given e.window e.low_mz e.high_mz ∷ f in
    let a : List Bool = activation_given e preamble precursors ∷ w in
    let c : List Bool = codes_given e preamble ∷ a in
    let b : List Bool = eqb e.preamble_len (size_for_version version) ∷ c in
    let h₁ = and_true (ltb version 66) (all b) h in
    let h₂ = and_true (eqb e.preamble_len (size_for_version version)) (all c) h₁.1 in
    let h₃ = and_true (codes_given e preamble) (all a) h₂.1 in
    let h₄ = and_true (activation_given e preamble precursors) (all w) h₃.1 in
    let h₅ = and_true (window_given e.window e.low_mz e.high_mz) (all f) h₄.1 in
    let h₆ = and_true (ltb e.reactions (2 ^ 32)) (all g) h₅.1 in
    let h₇ = and_true (ltb e.coefficients (2 ^ 32)) true h₆.1 in
    record {
      before = ltb-true version 66 h₁.0;
      bytes = eqb-true e.preamble_len (size_for_version version) h₂.0;
      codes = h₃.0;
      activation = h₄.0;
      window = h₅.0;
      reactions = ltb-true e.reactions (2 ^ 32) h₆.0;
      coefficients = ltb-true e.coefficients (2 ^ 32) h₇.0;
    }

pub small : (version : ℕ) (e : ScanEvent) (preamble precursors : List ℕ) → held_before_66 version e preamble precursors ≡ true
    → Small e.preamble_len e.reactions e.coefficients
small version e preamble precursors h =
    let t = held version e preamble precursors h in
    record { preamble = omega (arith, t.bytes, size_most version); reactions = t.reactions; coefficients = t.coefficients }

module _ (version : ℕ) (e : ScanEvent) (p q r c out : List ℕ) where
  abbrev bs : List ℕ
  bs = written (layout_before_66 version) (as_event e p q r c)

  abbrev pub counts : ℕ → List ℕ
  counts n = e.preamble_len ∷ e.reactions ∷ e.reactions ∷ e.coefficients ∷ n ∷ []

  abbrev pub lent : List ℕ
  lent = length p ∷ length q ∷ length r ∷ length c ∷ length out ∷ []

  abbrev pub size : ℕ
  size = e.preamble_len + (e.reactions * 32 + 8) + e.coefficients * 8 + 28

  -- slices that hold the lists give them whole
  pub size_is : (n : ℕ) → fits (counts n) lent ≡ true → length bs ≡ size
  size_is n h =
      let w = fits_true (counts n) lent h in
      let a : length (take e.preamble_len p) ≡ e.preamble_len = simp length-take (omega (arith, w.0)) in
      let b : length (take e.reactions q) ≡ e.reactions = simp length-take (omega (arith, w.1.0)) in
      let d : length (take e.reactions r) ≡ e.reactions = simp length-take (omega (arith, w.1.1.0)) in
      let f : length (take e.coefficients c) ≡ e.coefficients = simp length-take (omega (arith, w.1.1.1.0)) in
      let z : length (zip (take e.reactions q) (take e.reactions r)) ≡ e.reactions = length-zip (take e.reactions q) (take e.reactions r) ∙ omega (arith, b, d) in
      event_size version (window_in e) (take e.preamble_len p) (take e.reactions q) (take e.reactions r) (take e.coefficients c) ∙ rw (a, z, f) (omega arith)

  pub event_written : fits (counts size) lent ≡ true → {ys : List ℕ} → ys ≡ sets out 0 bs → LeftListBy (write_if_fits version e p q r c) out (Ok size) ys
  unfolding write_if_fits
  event_written h {ys} w =
      let n : length bs ≡ size = size_is size h in
      let room : fits (counts (length bs)) lent ≡ true = rw n h in
      left_written {a = bs} (rw room) (sym n) (w ∙ sets_over bs out (rw n (fits_true (counts size) lent h).1.1.1.1.0))

  pub event_no_room : fits (counts size) lent ≡ false → LeftListBy (write_if_fits version e p q r c) out (Err NoRoom) out
  unfolding write_if_fits
  event_no_room h =
      let few : fits (counts (length bs)) lent ≡ false =
      ⊎_elim
      (λ (t : fits (counts (length bs)) lent ≡ true). let n : length bs ≡ size = size_is (length bs) t in false_not_true (sym h ∙ (rw n at t)))
      (λ (t : fits (counts (length bs)) lent ≡ false). t)
      (bool_cases (fits (counts (length bs)) lent)) in
      left_refused (rw few)
