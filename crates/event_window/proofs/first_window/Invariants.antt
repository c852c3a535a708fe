-- `event_window::first_window` meets its contract. The invariant: no offset before this one has a window.
use mathlib.Core.Path.{◌≡◌}
use lib.ListN.{drop}
use Rattle.event_window.specs.Window.{first_window}
use Rattle.event_window.proofs.first_window.Given as goal

abbrev pub invariant-loop-off : goal.invariant-loop-off
invariant-loop-off l = first_window l.body l.offsets ≡ first_window l.body (drop l.off-index l.offsets)
