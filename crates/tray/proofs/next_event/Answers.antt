-- The header and the event decide.
use Rattle.std.proofs.lemmas.Result.{err_from_is_err_and}
use mathlib.Core.Path.{◌≡◌, sym, ap, ◌∙◌}
use native.Mathlib.Omega.{arith}
use Rattle.refusal.specs.Outcome.{ok}
use Rattle.refusal.specs.Number.{outcome_of}
use Rattle.tray_header.specs.Header.{read_tray_header}
use Rattle.tray_header.proofs.Found.{whole}
use Rattle.tray_scan.specs.Scan.{end_in}
use Rattle.tray.specs.Scan.{next_event}
use Rattle.tray.proofs.Headers.{run_is}
use Rattle.tray.proofs.next_event.Goals as goal
use Rattle.tray.proofs.next_event.Goals.{In_ok-h}

header : (c : In_ok-h) → ok c.in_ok-h.h ≡ read_tray_header c.args.tray.now
header c = sym (ap outcome_of c.in_ok-h.was) ∙ c.read_tray_header.ensures

pub slice_bounds-event_end-count : goal.slice_bounds-event_end-count
slice_bounds-event_end-count c = omega (arith, (whole 4096 6 _ (header (goal.at.slice_bounds-event_end-count c).In_ok-h)).size)

pub slice_bounds-event_end-start : goal.slice_bounds-event_end-start
slice_bounds-event_end-start c = omega (arith, (whole 4096 6 _ (header (goal.at.slice_bounds-event_end-start c).In_ok-h)).size)

pub returns-in_err-h : goal.returns-in_err-h
unfolding next_event
returns-in_err-h c =
    let p = err_from_is_err_and c.from_residual.result c.from_residual.ensures.1 in
    rw (p.1, p.2) (rw (← (sym (ap outcome_of c.in_err-h.was) ∙ c.read_tray_header.ensures)))

pub returns : goal.returns
unfolding next_event
returns c =
    let a = c.args in
    rw (← header (goal.at.returns c).In_ok-h) (c.event_end.ensures ∙ ap (end_in c.in_ok-h.h a.at) (run_is a.tray.now))
