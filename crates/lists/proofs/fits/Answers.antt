-- The counts before the i-th fit, so the others decide.
use mathlib.Core.Path.{sym, ap, ◌∙◌}
use native.Mathlib.Omega.{arith}
use lib.ListN.{drop, drop_of_length-le}
use Rattle.lists.specs.Left.{fits}
use Rattle.lists.proofs.Left.{fits_next, fits_not}
use Rattle.lists.proofs.fits.Goals as goal

pub loop-i-preserved : goal.loop-i-preserved
loop-i-preserved g c = c.loop-i.invariant ∙ fits_next c.args.counts c.args.rooms c.loop-i.i (omega arith) (omega arith) c.if-count-rooms.false

pub returns-then-count-rooms : goal.returns-then-count-rooms
returns-then-count-rooms g c = sym (c.loop-i.invariant ∙ fits_not c.args.counts c.args.rooms c.loop-i.i (omega arith) (omega arith) c.if-count-rooms.true)

pub returns : goal.returns
returns g c = sym (c.loop-i.invariant ∙ ap (λ ns. fits ns (drop c.loop-i.i c.args.rooms)) (drop_of_length-le c.args.counts (omega arith)))
