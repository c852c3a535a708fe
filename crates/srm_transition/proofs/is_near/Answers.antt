-- `srm_transition::is_near` meets its contract.
use Rattle.srm_transition.proofs.Constants.{is_0_002}
use Rattle.srm_transition.proofs.is_near.Goals as goal

pub returns : goal.returns
returns c = rw (← is_0_002, c.absolute.ensures)
