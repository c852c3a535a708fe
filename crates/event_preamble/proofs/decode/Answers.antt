-- `event_preamble::decode` meets its contract: `cc` joins the eleven fields with the calls.
use Rattle.event_preamble.specs.Settings.{settings}
use Rattle.event_preamble.proofs.decode.Goals as goal

pub returns : goal.returns
unfolding settings
returns c = cc
