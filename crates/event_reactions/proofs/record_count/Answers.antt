-- `event_reactions::record_count` meets its contract.
use borrow.Author.Tests.{le-leb, lt-leb}
use Rattle.event_reactions.specs.Reactions.{record_count}
use Rattle.event_reactions.proofs.record_count.Goals as goal

pub returns-then-stored-largest : goal.returns-then-stored-largest
unfolding record_count
returns-then-stored-largest c =
    simp (← c.u32_at-stored.ensures, ← c.remaining.ensures, ← c.max-largest.ensures, le-leb _ _ c.if-stored-largest.true, ← c.remaining-then-stored-largest.ensures)
    c.min.ensures

pub returns-else-stored-largest : goal.returns-else-stored-largest
unfolding record_count
returns-else-stored-largest c =
    simp (← c.u32_at-stored.ensures, ← c.remaining.ensures, ← c.max-largest.ensures, lt-leb _ _ c.if-stored-largest.false)
