-- `float_ten_thousandths::ten_thousandths` meets its contract.
use mathlib.Core.Path.{sym, ap, ◌∙◌, subst}
use lib.Dec.{T}
use lib.Ieee.{le}
use Rattle.refusal.specs.Outcome.{ok}
use Rattle.float_ten_thousandths.specs.TenThousandths.{ten_thousandths}
use Rattle.float_ten_thousandths.proofs.Constants.{zero_is, limit_is}
use Rattle.float_ten_thousandths.proofs.ten_thousandths.Goals as goal
use Rattle.float_ten_thousandths.proofs.ten_thousandths.Goals.{else-x-via-then-x+else-x-2, else-x-via-else-x}

pub scaled-requires : goal.scaled-requires
scaled-requires c =
    let x = c.args.x in record { not_negative = subst T (sym (ap (λ k. le k x) (sym zero_is) ∙ c.if-x.true)) tt; at_most_largest = subst T (sym (ap (le x) (sym limit_is) ∙ c.if-x-2.true)) tt }

pub returns-then-x-2 : goal.returns-then-x-2
unfolding ten_thousandths
returns-then-x-2 c =
    simp (← zero_is, ← limit_is, c.if-x.true, c.if-x-2.true) (ap ok c.scaled.ensures)

pub returns-else-x : goal.returns-else-x
unfolding ten_thousandths
returns-else-x c =
    elim c.else-x.branch [
      | else-x-via-then-x+else-x-2 w ↦ simp (← zero_is, ← limit_is, w.if-x.true, w.if-x-2.false)
      | else-x-via-else-x w ↦ simp (← zero_is, w.if-x.false)
    ]
