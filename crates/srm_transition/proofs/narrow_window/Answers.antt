-- `srm_transition::narrow_window` meets its contract.
use Rattle.srm_transition.proofs.Constants.{is_0_1}
use Rattle.srm_transition.proofs.narrow_window.Goals as goal

pub returns-then-lo-hi : goal.returns-then-lo-hi
returns-then-lo-hi c = simp (← is_0_1, c.if-lo-hi.true)
