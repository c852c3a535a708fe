-- Each list is written by a call of its own.
use Rattle.event_writer.proofs.Writing.{all_lists}
use Rattle.event_writer.proofs.write_lists.Goals as goal

pub returns : goal.returns
returns c =
    all_lists _ _ _ _ _ _ _ c.requires c.copy_bytes.ensures.stands c.write_reactions.ensures c.copy.ensures.stands
