-- `writer::store_u64s` meets its contract. The invariant: the elements before the next one are stored, and the place is that of the next.
use Rattle.layout.specs.Layout.{le_bytes}
use Rattle.writer.proofs.Loops.{Storing}
use Rattle.writer.proofs.store_u64s.Given as goal

abbrev pub invariant-loop-x : goal.invariant-loop-x
invariant-loop-x l = Storing (le_bytes 8) 8 l.xs l.initial.out l.at l.out l.x-index l.place
