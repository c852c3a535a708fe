-- `event_counted::kept_count` meets its contract.
use mathlib.Core.Path.{sym, ◌∙◌}
use Rattle.event_counted.proofs.kept_count.Goals as goal

pub returns-then-is_primary : goal.returns-then-is_primary
returns-then-is_primary c = rw (sym c.is_primary.ensures ∙ c.if-is_primary.true)

pub returns-else-is_primary : goal.returns-else-is_primary
returns-else-is_primary c = rw (sym c.is_primary.ensures ∙ c.if-is_primary.false)
