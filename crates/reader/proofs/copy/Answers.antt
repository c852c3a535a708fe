-- The invariant is `Copying`.
use native.Mathlib.Omega.{arith}
use lib.ListN.{length-take}
use Rattle.lists.proofs.Laws.{length-each, fill_none, fill_done, over_front}
use Rattle.lists.proofs.Left.{list_no_room, list_written}
use Rattle.reader.proofs.Copies.{copying_more}
use Rattle.reader.proofs.copy.Goals as goal

pub returns-then-n-out : goal.returns-then-n-out
returns-then-n-out g c = list_no_room _ _ (rw length-each (omega arith))

pub loop-slot-init : goal.loop-slot-init
loop-slot-init g c = (fill_none _ _ _, omega arith)

pub loop-slot-preserved : goal.loop-slot-preserved
loop-slot-preserved g c =
    let a = c.args in
    copying_more g.R.Stored.value g.met.R.Stored.beyond a.run.now a.at a.stride a.n _ _ c.loop-slot.place c.loop-slot.slot-index c.loop-slot.invariant (omega arith) c.read.ensures c.saturating_add-place.ensures
    (omega (arith, length-take a.n a.out.now)) (omega (arith, length-take a.n a.out.now))

pub returns : goal.returns
returns g c =
    let a = c.args in
    let size = length-take a.n a.out.now in
    list_written _ _ (length-each _ _) (rw length-each (omega arith))
    (over_front _ _ _ a.n (fill_done _ _ _ _ _ c.loop-slot.invariant.0 (omega (arith, size))) (length-each _ _))
