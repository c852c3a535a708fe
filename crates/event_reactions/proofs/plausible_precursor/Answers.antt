-- `event_reactions::plausible_precursor` meets its contract: each way through the `&&` says which tests held on it.
use mathlib.Core.Path.{sym, ◌∙◌}
use Rattle.event_reactions.proofs.Constants.{zero_is, limit_is}
use Rattle.event_reactions.proofs.plausible_precursor.Goals as goal
use Rattle.event_reactions.proofs.plausible_precursor.Goals.{then-is_finite64, else-is_finite64}

pub returns-then-x : goal.returns-then-x
returns-then-x c =
    let value = c.f64_of_bits-x.ensures in
    let finite = sym c.is_finite64.ensures in
    elim c.if-is_finite64.branch [
      | then-is_finite64 w ↦ simp (← zero_is, ← limit_is, value, finite ∙ w.if-is_finite64.true, rw value at (sym w.value-is ∙ c.if-x.true))
      | else-is_finite64 w ↦ cc
    ]
