-- `srm_flat_peaks::find_flat_peaks` meets its contract: what both attempts come to, or no peaks.
use native.Mathlib.Omega.{arith}
use Rattle.std.specs.Prelude.{Ok, Err}
use Rattle.std.proofs.lemmas.Result.{err_from_is_err_and}
use Rattle.srm_flat_peaks.proofs.Answers.{no_peaks, or_no_peaks, by_attempts}
use Rattle.srm_flat_peaks.proofs.find_flat_peaks.Goals as goal

pub returns-then-data_size-le1 : goal.returns-then-data_size-le1
returns-then-data_size-le1 c =
    let a = c.args in
    no_peaks a.«data» a.cum_end a.data_size a.run.now _ c.saturating_add-end.ensures (omega arith)

pub returns-in_err-attempts_at : goal.returns-in_err-attempts_at
returns-in_err-attempts_at c =
    let a = c.args in
    let p = err_from_is_err_and c.from_residual.result c.from_residual.ensures.1 in
    rw (p.1, p.2) (by_attempts a.«data» a.cum_end a.data_size a.run.now _ c.saturating_add-end.ensures (omega arith) (Err c.in_err-attempts_at.field-0.0) c.in_err-attempts_at.ensures)

pub returns : goal.returns
returns c =
    let a = c.args in
    rw (c.ok_or.ensures.value, or_no_peaks)
    (by_attempts a.«data» a.cum_end a.data_size a.run.now _ c.saturating_add-end.ensures (omega arith) (Ok c.in_ok-attempts_at.field-0) c.in_ok-attempts_at.ensures)
