use mathlib.Core.Path.{sym}
use Rattle.lists.proofs.Laws.{length-each}
use Rattle.event_reactions.specs.Reactions.{in_source}
use Rattle.event_reactions.proofs.count_reactions.Goals as goal

pub returns-in-Every : goal.returns-in-Every
unfolding in_source
returns-in-Every c = rw c.in-Every.is (sym (length-each _ _))

pub returns-in-Sought : goal.returns-in-Sought
unfolding in_source
returns-in-Sought c = rw c.in-Sought.is c.count_sought.ensures
