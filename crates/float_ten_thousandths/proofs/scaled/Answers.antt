-- `float_ten_thousandths::scaled` meets its contract.
use mathlib.Core.Path.{sym, ap, ◌∙◌, subst}
use mathlib.Core.Bool.{not}
use native.Mathlib.Omega.{arith}
use lib.Dec.{T}
use lib.Ieee.{Float, binary64, fits, le}
use Rattle.float_ten_thousandths.proofs.Constants.{least, least_is}
use Rattle.float_ten_thousandths.proofs.Scaling.{field_least, field_most, scaled_is, below_least}
use Rattle.float_bits.specs.Numbers.{largest_mass}
use Rattle.float_ten_thousandths.proofs.scaled.Goals as goal
use Rattle.float_ten_thousandths.proofs.scaled.Goals.{Then-x}

-- where x is at least 2 ^ -15
abbrev x : Then-x → Float
x c = c.args.x

held : (c : Then-x) → T (fits binary64 (x c))
held c = subst T (sym c.well_formed.0.1) tt

above : (c : Then-x) → T (le least (x c))
above c = subst T (sym (ap (λ k. le k (x c)) (sym least_is) ∙ c.if-x.true)) tt

below : (c : Then-x) → T (le (x c) largest_mass)
below c = c.requires.at_most_largest

pub overflow_sub-halves : goal.overflow_sub-halves
overflow_sub-halves c = let high = field_most (x (goal.at.overflow_sub-halves c).Then-x) (held (goal.at.overflow_sub-halves c).Then-x) (above (goal.at.overflow_sub-halves c).Then-x) (below (goal.at.overflow_sub-halves c).Then-x) in omega arith

pub overflow_shr-halves-then-x : goal.overflow_shr-halves-then-x
overflow_shr-halves-then-x c = let low = field_least (x (goal.at.overflow_shr-halves-then-x c).Then-x) (held (goal.at.overflow_shr-halves-then-x c).Then-x) (above (goal.at.overflow_shr-halves-then-x c).Then-x) (below (goal.at.overflow_shr-halves-then-x c).Then-x) in omega arith

pub returns-then-x : goal.returns-then-x
returns-then-x c = scaled_is (x (goal.at.returns-then-x c).Then-x) (held (goal.at.returns-then-x c).Then-x) (above (goal.at.returns-then-x c).Then-x) (below (goal.at.returns-then-x c).Then-x)

pub returns-else-x : goal.returns-else-x
returns-else-x c = below_least c.args.x c.requires.not_negative (subst (λ t. T (not t)) (sym (ap (λ k. le k c.args.x) (sym least_is) ∙ c.if-x.false)) tt)
