-- The count word is near the body.
use Prim.Native.Nat.{ℕ, ◌+◌, ◌-◌, ◌≤◌}
use native.Mathlib.Omega.{arith}
use mathlib.Core.Bool.{Bool, true, false, ◌&&◌, cond}
use lib.Dec.{eqb}
use Rattle.event_coefficients.specs.Coefficients.{word_offset}

pub word_most : (window size : ℕ) (primary : Bool) → word_offset window size primary ≤ size + 80
unfolding word_offset
word_most window size primary = go (eqb window 64) (eqb window 8 && eqb size 96 && primary)
  where
    go : (a b : Bool) → cond a 80 (cond b 24 (size - 64)) ≤ size + 80
    go true b = omega arith
    go false true = omega arith
    go false false = omega arith
