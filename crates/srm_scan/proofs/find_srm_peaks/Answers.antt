-- `srm_scan::find_srm_peaks` meets its contract: the channels are counted, and the first m/z stands after their windows.
use native.Mathlib.Omega.{arith}
use Rattle.std.proofs.lemmas.Result.{err_from_is_err_and}
use Rattle.srm_scan.proofs.Counting.{channels_there}
use Rattle.srm_scan.proofs.Answers.{found, find_refused}
use Rattle.srm_scan.proofs.find_srm_peaks.Goals as goal

pub returns-in_err-n : goal.returns-in_err-n
returns-in_err-n c =
    let a = c.args in
    let p = err_from_is_err_and c.from_residual.result c.from_residual.ensures.1 in
    rw (p.1, p.2) (find_refused a.«data» a.offset a.run.now _ c.saturating_add-at.ensures c.in_err-n.ensures)

pub overflow_add-result : goal.overflow_add-result
overflow_add-result c = let there = channels_there 20 _ _ _ c.in_ok-n.ensures in omega arith

pub overflow_mul-result : goal.overflow_mul-result
overflow_mul-result c = let there = channels_there 20 _ _ _ c.in_ok-n.ensures in omega arith

pub overflow_add-result-2 : goal.overflow_add-result-2
overflow_add-result-2 c = let there = channels_there 20 _ _ _ c.in_ok-n.ensures in omega arith

pub returns : goal.returns
returns c = let a = c.args in found a.«data» a.offset a.run.now _ c.saturating_add-at.ensures c.in_ok-n.n c.in_ok-n.ensures
