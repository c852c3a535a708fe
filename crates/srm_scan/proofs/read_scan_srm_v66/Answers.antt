-- `srm_scan::read_scan_srm_v66` meets its contract: the peaks that were found are handed out.
use Rattle.std.proofs.lemmas.Result.{err_from_is_err_and}
use Rattle.lists.proofs.Left.{left_refused, left_same}
use Rattle.srm_scan.proofs.Answers.{read_found, read_refused}
use Rattle.srm_scan.proofs.read_scan_srm_v66.Goals as goal

pub returns-in_err-place : goal.returns-in_err-place
returns-in_err-place c =
    let p = err_from_is_err_and c.from_residual.result c.from_residual.ensures.1 in
    rw (p.1, p.2) (left_refused (read_refused _ _ _ _ _ c.in_err-place.ensures))

pub returns : goal.returns
returns c = left_same (read_found _ _ _ _ _ _ _ c.in_ok-place.ensures) c.write_peaks.ensures
