-- The counts before the i-th fit, so the others decide.
use mathlib.Core.Path.{◌≡◌}
use lib.ListN.{drop}
use Rattle.lists.specs.Left.{fits}
use Rattle.lists.proofs.fits.Given as goal

abbrev pub invariant-loop-i : goal.invariant-loop-i
invariant-loop-i g l = fits l.initial.count-items l.rooms ≡ fits (drop l.i l.count-items) (drop l.i l.rooms)
