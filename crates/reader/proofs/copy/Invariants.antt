-- The invariant is `Copying`.
use Rattle.reader.proofs.Copies.{Copying}
use Rattle.reader.proofs.copy.Given as goal

abbrev pub invariant-loop-slot : goal.invariant-loop-slot
invariant-loop-slot g l = Copying g.R.Stored.value l.run l.at l.stride l.n l.initial.slot-items l.slot-items l.place l.slot-index
