-- The ways out of a call that writes a record's bytes over the front of a lent slice, and back from its outcome.
use Rattle.std.specs.Prelude.{Ok, Err}
use mathlib.Core.Path.{◌≡◌, refl, sym, ◌∙◌}
use Prim.Native.Nat.{ℕ, ◌≤◌}
use mathlib.Core.Bool.{Bool, true, false}
use mathlib.Core.List.{List, ◌++◌, append_assoc}
use lib.ListN.{length, drop}
use lib.Seq.{sets}
use Rattle.refusal.specs.Outcome.{ok}
use Rattle.refusal.specs.declared.Refusal.TheVariants.{NoRoom, NotHeld}
use Rattle.refusal.proofs.Outcomes.{ok_not_refused}
use Rattle.lists.specs.Written.{over}
use Rattle.lists.specs.Left.{LeftListBy, if_fits}
use Rattle.lists.proofs.Left.{left_refused, left_written}
use Rattle.layout.specs.Write.{if_held}
use Rattle.writer.proofs.Stores.{sets_over}

module _ (held : Bool) (room : ℕ → Bool) (bs out : List ℕ) where
  pub not_held : held ≡ false → LeftListBy (λ c. if_held held (if_fits (room c) bs)) out (Err NotHeld) out
  not_held h = left_refused (rw h)

  pub no_room : held ≡ true → room (length out) ≡ false → LeftListBy (λ c. if_held held (if_fits (room c) bs)) out (Err NoRoom) out
  no_room h k = left_refused (rw (h, k))

  pub all_written : held ≡ true → room (length out) ≡ true → {n : ℕ} → length bs ≡ n → n ≤ length out → {ys : List ℕ} → ys ≡ sets out 0 bs
      → LeftListBy (λ c. if_held held (if_fits (room c) bs)) out (Ok n) ys
  all_written h k size l e = left_written {a = bs} (rw (h, k)) (sym size) (e ∙ sets_over bs out (rw size l))

pub held_ok : {A : Type 0} (held room : Bool) (v : A) {a : A} → ok a ≡ if_held held (if_fits room v) → (held ≡ true) × (room ≡ true) × (a ≡ v)
held_ok true true v h = (refl, refl, cc)
held_ok true false v h = ok_not_refused h
held_ok false room v h = ok_not_refused h

-- the bytes that a call wrote, where its slice stands in a run
pub written_in : (run : List ℕ) (at : ℕ) (xs ys more vs bs : List ℕ) → drop at run ≡ ys ++ more → ys ≡ over vs xs → vs ≡ bs → drop at run ≡ bs ++ (drop (length bs) xs ++ more)
unfolding over
written_in run at xs ys more vs bs there e v = there ∙ rw (e, v) (append_assoc bs (drop (length bs) xs) more)
