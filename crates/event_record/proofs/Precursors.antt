-- The count of reactions that have a precursor, as the library counts.
use mathlib.Core.Path.{◌≡◌, refl}
use Prim.Native.Nat.{ℕ, ◌+◌}
use native.Mathlib.Omega.{arith}
use mathlib.Core.Bool.{Bool, true, false, cond}
use mathlib.Core.List.{List, ◌∷◌}
use lib.ListN.{length}
use Rattle.std.specs.List.{count_by}
use Rattle.std.proofs.lemmas.List.Recursion.{is_count_by}
use Rattle.lists.specs.Filter.{filter}
use Rattle.event_record.specs.Activation.{above, with_precursor}

pub is_count : (ps : List ℕ) → with_precursor ps ≡ count_by above ps
unfolding with_precursor
is_count = is_count_by with_precursor above refl (λ p ps. one p (filter above ps) (above p))
  where
    one : (p : ℕ) (kept : List ℕ) (b : Bool) → length (cond b (p ∷ kept) kept) ≡ cond b (1 + length kept) (length kept)
    one p kept true = omega arith
    one p kept false = refl
