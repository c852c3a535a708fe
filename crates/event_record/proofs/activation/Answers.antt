-- `event_record::activation` meets its contract: `cc` joins the calls.
use Rattle.event_record.specs.Activation.{event_activation}
use Rattle.event_record.proofs.activation.Goals as goal

pub returns : goal.returns
unfolding event_activation
returns c = cc
