-- `event_reactions::count_kept` meets its contract. The invariant: `count` of the first i records are kept.
use Rattle.event_reactions.proofs.Kept.{Counted}
use Rattle.event_reactions.proofs.count_kept.Given as goal

abbrev pub invariant-loop-i : goal.invariant-loop-i
invariant-loop-i l = Counted l.body l.from l.count l.i
