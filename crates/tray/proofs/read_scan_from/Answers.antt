-- The header decides, then the number, and then the run.
use Rattle.std.proofs.lemmas.Result.{err_from_is_err_and}
use mathlib.Core.Path.{◌≡◌, sym, ap, ◌∙◌}
use native.Mathlib.Omega.{arith}
use Rattle.refusal.specs.Outcome.{ok}
use Rattle.refusal.specs.Number.{outcome_of}
use Rattle.lists.proofs.Left.{left_refused, left_same}
use Rattle.tray.specs.Scan.{header_with}
use Rattle.tray.proofs.Headers.{with_size, no_run, in_run, run_is}
use borrow.Author.Rules.{rules}
use Rattle.tray.proofs.read_scan_from.Goals as goal
use Rattle.tray.proofs.read_scan_from.Goals.{In_ok-h}

header : (c : In_ok-h) → ok c.in_ok-h.h ≡ header_with 4096 6 c.args.k c.args.tray.now
header c = sym (ap outcome_of c.in_ok-h.was) ∙ c.header_with.ensures

pub slice_bounds-run-count : goal.slice_bounds-run-count
slice_bounds-run-count c = omega (arith, with_size 4096 6 _ _ (header (goal.at.slice_bounds-run-count c).In_ok-h))

pub slice_bounds-run-start : goal.slice_bounds-run-start
slice_bounds-run-start c = omega (arith, with_size 4096 6 _ _ (header (goal.at.slice_bounds-run-start c).In_ok-h))

pub returns-in_err-h : goal.returns-in_err-h
returns-in_err-h c =
    let p = err_from_is_err_and c.from_residual.result c.from_residual.ensures.1 in
    rw (p.1, p.2) (left_refused (no_run 4096 6 c.args.tray.now _ _ _ (sym (ap outcome_of c.in_err-h.was) ∙ c.header_with.ensures)))

pub returns : goal.returns
returns c =
    let a = c.args in
    left_same (in_run 4096 6 a.tray.now _ _ _ (header (goal.at.returns c).In_ok-h)) (rw (run_is a.tray.now) at c.scan_at-read.ensures.left_lists_and_pairs)
