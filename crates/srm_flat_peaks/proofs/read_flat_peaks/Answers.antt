-- `srm_flat_peaks::read_flat_peaks` meets its contract: the peaks that were found are handed out.
use Rattle.std.proofs.lemmas.Result.{err_from_is_err_and}
use Rattle.lists.proofs.Left.{left_refused, left_same}
use Rattle.srm_flat_peaks.proofs.Answers.{read_found, read_refused}
use Rattle.srm_flat_peaks.proofs.read_flat_peaks.Goals as goal

pub returns-in_err-place : goal.returns-in_err-place
returns-in_err-place c =
    let p = err_from_is_err_and c.from_residual.result c.from_residual.ensures.1 in
    rw (p.1, p.2) (left_refused (read_refused _ _ _ _ _ _ c.in_err-place.ensures))

pub returns : goal.returns
returns c = left_same (read_found _ _ _ _ _ _ _ _ c.in_ok-place.ensures) c.write_peaks.ensures
