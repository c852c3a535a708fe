-- `writer::store_u64s` meets its contract. The invariant: the elements before the next one are stored, and the place is that of the next.
use mathlib.Core.Path.{ap, ◌∙◌}
use native.Mathlib.Omega.{arith}
use lib.ListN.{length}
use lib.Seq.{length-sets}
use Rattle.layout.specs.Layout.{le_bytes}
use Rattle.layout.proofs.Numbers.{length-le_bytes}
use Rattle.writer.proofs.Loops.{storing_none, storing_more, storing_all}
use Rattle.writer.proofs.store_u64s.Goals as goal

pub loop-x-init : goal.loop-x-init
loop-x-init c = storing_none _ _ _ _ _ (omega arith)

pub loop-x-preserved : goal.loop-x-preserved
loop-x-preserved c =
    let a = c.args in
    storing_more (le_bytes 8) 8 a.xs.now a.out.now a.at (length-le_bytes 8) (omega arith) _ _ _ _ _ 0 c.loop-x.invariant (omega arith) c.store_u64.ensures c.saturating_add-place.ensures

pub shape_of-out : goal.shape_of-out
shape_of-out c = ap length c.loop-x.invariant.stored ∙ simp length-sets

pub returns : goal.returns
returns c = storing_all _ _ _ _ _ c.loop-x.invariant c.loop-x-test.false
