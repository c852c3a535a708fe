-- The header, and then the number.
use Rattle.std.proofs.lemmas.Result.{err_from_is_err_and}
use mathlib.Core.Path.{sym, ap, ◌∙◌}
use Rattle.refusal.specs.Number.{outcome_of}
use Rattle.tray.proofs.Headers.{no_header, no_scan, has_scan}
use Rattle.tray.proofs.header_with.Goals as goal

pub returns-in_err-h : goal.returns-in_err-h
returns-in_err-h c =
    let p = err_from_is_err_and c.from_residual.result c.from_residual.ensures.1 in
    rw (p.1, p.2) (no_header 4096 6 c.args.tray.now _ (sym (ap outcome_of c.in_err-h.was) ∙ c.read_tray_header.ensures))

pub returns-then-k-h : goal.returns-then-k-h
returns-then-k-h c = has_scan 4096 6 c.args.tray.now _ (sym (ap outcome_of c.in_ok-h.was) ∙ c.read_tray_header.ensures) c.if-k-h.true

pub returns : goal.returns
returns c = no_scan 4096 6 c.args.tray.now _ (sym (ap outcome_of c.in_ok-h.was) ∙ c.read_tray_header.ensures) c.if-k-h.false
