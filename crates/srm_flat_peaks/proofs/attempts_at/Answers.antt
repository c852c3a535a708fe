-- `srm_flat_peaks::attempts_at` meets its contract: the first attempt decides, or where it was passed over the second.
use mathlib.Core.Path.{refl}
use Rattle.std.specs.Prelude.{Some, None, Ok, Err}
use Rattle.std.proofs.lemmas.Result.{err_from_is_err_and}
use Rattle.srm_flat_peaks.proofs.Answers.{by_both}
use Rattle.srm_flat_peaks.proofs.attempts_at.Goals as goal

pub returns-in_err-found : goal.returns-in_err-found
returns-in_err-found c =
    let a = c.args in
    let p = err_from_is_err_and c.from_residual.result c.from_residual.ensures.1 in
    rw (p.1, p.2) (by_both a.end a.cum_end a.data_size a.run.now a.end (Err c.in_err-found.field-0.0) _ c.in_err-found.ensures refl)

pub returns-in-Some : goal.returns-in-Some
returns-in-Some c =
    let a = c.args in
    by_both a.end a.cum_end a.data_size a.run.now a.end (Ok (Some c.in-Some.found)) _ (rw c.in-Some.is at c.in_ok-found.ensures) refl

pub returns-in-None : goal.returns-in-None
returns-in-None c =
    let a = c.args in
    by_both a.end a.cum_end a.data_size a.run.now a.end (Ok None) _ (rw c.in-None.is at c.in_ok-found.ensures) c.attempt_at-in-None.ensures
