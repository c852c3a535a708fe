-- The elements so far, in order.
use Rattle.std.proofs.Common.{sym, ◌∙◌, ap, length, arith}
use Rattle.lists.proofs.Laws.{each_none, each_more, length-each}
use Rattle.probe_text.proofs.lent.lent.Goals as goal

pub loop-i-init : goal.loop-i-init
loop-i-init g c = c.in_ok-lent.ensures.items ∙ each_none g.T.Element.filler_at

pub loop-i-preserved : goal.loop-i-preserved
loop-i-preserved g c =
    c.in_ok-push.ensures.items ∙ rw (c.loop-i.invariant, c.filler.ensures) (sym (each_more g.T.Element.filler_at c.loop-i.i))

pub returns-clause-len : goal.returns-clause-len
returns-clause-len g c = let counted = length-each g.T.Element.filler_at c.loop-i.i in ap length c.loop-i.invariant ∙ omega (arith, counted)
