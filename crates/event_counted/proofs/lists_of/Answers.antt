-- `event_counted::lists_of` meets its contract.
use Rattle.event_counted.specs.Layout.{lists_counted}
use Rattle.event_counted.proofs.lists_of.Goals as goal

pub returns : goal.returns
unfolding lists_counted
returns c = rw (c.plausible_window.ensures, c.coefficient_count.ensures, c.kept_count.ensures)
