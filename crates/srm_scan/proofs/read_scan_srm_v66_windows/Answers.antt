-- `srm_scan::read_scan_srm_v66_windows` meets its contract: the channels are counted, and their windows handed out.
use native.Mathlib.Omega.{arith}
use Rattle.std.proofs.lemmas.Result.{err_from_is_err_and}
use Rattle.lists.proofs.Left.{left_refused, left_same}
use Rattle.srm_scan.proofs.Counting.{channels_there}
use Rattle.srm_scan.proofs.Answers.{windows_there, no_windows}
use Rattle.srm_scan.proofs.read_scan_srm_v66_windows.Goals as goal

pub overflow_add-at : goal.overflow_add-at
overflow_add-at c = let there = channels_there 8 _ _ _ c.in_ok-n.ensures in omega arith

pub write_windows-requires : goal.write_windows-requires
write_windows-requires c = let there = channels_there 8 _ _ _ c.in_ok-n.ensures in omega arith

pub returns-in_err-n : goal.returns-in_err-n
returns-in_err-n c =
    let p = err_from_is_err_and c.from_residual.result c.from_residual.ensures.1 in
    rw (p.1, p.2) (left_refused (no_windows _ _ _ _ c.saturating_add-at.ensures _ _ c.in_err-n.ensures))

pub returns : goal.returns
returns c = left_same (windows_there _ _ _ _ c.saturating_add-at.ensures _ _ _ c.in_ok-n.ensures) c.write_windows.ensures
