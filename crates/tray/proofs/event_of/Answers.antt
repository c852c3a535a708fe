-- The header, the number, and then the walk.
use Rattle.std.proofs.lemmas.Result.{err_from_is_err_and}
use mathlib.Core.Path.{◌≡◌, sym, ap, ◌∙◌}
use native.Mathlib.Omega.{arith}
use Rattle.refusal.specs.Outcome.{ok}
use Rattle.refusal.specs.Number.{outcome_of}
use Rattle.events.specs.Event.{event_place}
use Rattle.tray.specs.Scan.{header_with, event_of}
use Rattle.tray.proofs.Headers.{with_size, with_few, run_is}
use Rattle.tray.proofs.event_of.Goals as goal
use Rattle.tray.proofs.event_of.Goals.{In_ok-h}

header : (c : In_ok-h) → ok c.in_ok-h.h ≡ header_with 4096 6 c.args.k c.args.tray.now
header c = sym (ap outcome_of c.in_ok-h.was) ∙ c.header_with.ensures

pub slice_bounds-event_place-count : goal.slice_bounds-event_place-count
slice_bounds-event_place-count c = omega (arith, with_size 4096 6 _ _ (header (goal.at.slice_bounds-event_place-count c).In_ok-h))

pub slice_bounds-event_place-start : goal.slice_bounds-event_place-start
slice_bounds-event_place-start c = omega (arith, with_size 4096 6 _ _ (header (goal.at.slice_bounds-event_place-start c).In_ok-h))

pub overflow_cast-k : goal.overflow_cast-k
overflow_cast-k c = omega (arith, with_few 4096 6 _ _ (header (goal.at.overflow_cast-k c).In_ok-h))

pub returns-in_err-h : goal.returns-in_err-h
unfolding event_of
returns-in_err-h c =
    let p = err_from_is_err_and c.from_residual.result c.from_residual.ensures.1 in
    rw (p.1, p.2) (rw (← (sym (ap outcome_of c.in_err-h.was) ∙ c.header_with.ensures)))

pub returns : goal.returns
unfolding event_of
returns c =
    let a = c.args in
    let h = c.in_ok-h.h in
    rw (← header (goal.at.returns c).In_ok-h) (c.event_place.ensures ∙ ap (event_place h.version h.primary h.dependent h.events a.k) (run_is a.tray.now))
