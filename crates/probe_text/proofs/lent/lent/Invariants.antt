-- The elements so far, in order.
use Rattle.std.proofs.Common.{◌≡◌}
use Rattle.lists.specs.Written.{each}
use Rattle.probe_text.proofs.lent.lent.Given as goal

abbrev pub invariant-loop-i : goal.invariant-loop-i
invariant-loop-i g l = l.lent.items ≡ each g.T.Element.filler_at l.i
