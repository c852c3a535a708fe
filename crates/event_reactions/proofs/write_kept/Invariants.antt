-- The invariant: those kept of the first i records are written, `count` of them.
use Rattle.event_reactions.proofs.Kept.{Counted, Written}
use Rattle.event_reactions.proofs.write_kept.Given as goal

abbrev pub invariant-loop-i : goal.invariant-loop-i
invariant-loop-i l = Counted l.body l.from l.count l.i × Written l.body l.from l.initial.precursors l.initial.energies l.precursors l.energies l.i
