-- `event_window::first_window` meets its contract. The invariant: no offset before this one has a window.
use mathlib.Core.Path.{sym, ap, ◌∙◌}
use native.Mathlib.Omega.{arith}
use native.Mathlib.Numerals.{add-one}
use lib.ListN.{drop_of_length-le}
use lib.Seq.{drop-cons}
use Rattle.event_window.specs.Window.{first_window}
use Rattle.event_window.proofs.Search.{first_there, first_later}
use Rattle.event_window.proofs.first_window.Goals as goal

pub returns-in-Ends : goal.returns-in-Ends
returns-in-Ends c =
    let a = c.args in
    let l = c.loop-off in
    first_there _ _ _ c.plausible_window-found.ensures c.in-Ends.is
    ∙ sym (l.invariant ∙ ap (first_window a.body.now) (drop-cons a.offsets.now l.off-index 0 (omega arith)))

pub loop-off-preserved : goal.loop-off-preserved
loop-off-preserved c =
    let a = c.args in
    let l = c.loop-off in
    l.invariant
    ∙ ap (first_window a.body.now) (drop-cons a.offsets.now l.off-index 0 (omega arith))
    ∙ rw add-one (first_later _ _ _ c.plausible_window-found.ensures c.in_default.is)

pub returns : goal.returns
unfolding first_window
returns c = sym (c.loop-off.invariant ∙ rw (drop_of_length-le c.args.offsets.now {i = c.loop-off.off-index} (omega arith)))
