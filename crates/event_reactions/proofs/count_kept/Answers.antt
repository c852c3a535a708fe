-- `event_reactions::count_kept` meets its contract. The invariant: `count` of the first i records are kept.
use mathlib.Core.Path.{sym, ◌∙◌}
use Rattle.event_reactions.proofs.Kept.{count_none, count_in, count_out}
use Rattle.event_reactions.proofs.count_kept.Goals as goal
use Rattle.event_reactions.proofs.count_kept.Goals.{then-acceptable, else-acceptable}

pub loop-i-init : goal.loop-i-init
loop-i-init c = count_none _ _

pub loop-i-preserved : goal.loop-i-preserved
loop-i-preserved c =
    let inv = c.loop-i.invariant in
    let says = rw c.u64_at.ensures at c.acceptable.ensures in
    elim c.if-acceptable.branch [
      | then-acceptable w ↦ rw w.count-is (count_in _ _ _ _ (sym says ∙ w.if-acceptable.true) inv)
      | else-acceptable w ↦ rw w.count-is (count_out _ _ _ _ (sym says ∙ w.if-acceptable.false) inv)
    ]
