-- `event_bytes::store_reactions` meets its contract. The invariant: the reactions that were yielded are stored, and the place is that of the next.
use lib.ListN.{length}
use Rattle.std.specs.List.{zip}
use Rattle.layout.specs.Layout.{written}
use Rattle.writer.proofs.Loops.{Storing}
use Rattle.event_before_66.specs.Layout.{reaction}
use Rattle.event_bytes.proofs.store_reactions.Given as goal

abbrev pub invariant-loop-precursor : goal.invariant-loop-precursor
invariant-loop-precursor l = Storing (written reaction) 32 (zip l.precursors l.energies) l.initial.out l.at l.out (length l.yielded) l.place
