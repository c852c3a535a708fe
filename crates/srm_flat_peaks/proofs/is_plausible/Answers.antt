-- `srm_flat_peaks::is_plausible` meets its contract: each way through the tests says which held on it.
use Rattle.srm_flat_peaks.proofs.Constants.{is_0, is_10, is_10000}
use Rattle.srm_flat_peaks.proofs.is_plausible.Goals as goal

pub returns-then-mz-2 : goal.returns-then-mz-2
returns-then-mz-2 c =
    let value = c.widened-mz.ensures in
    simp (← is_0, ← is_10, ← is_10000, value, rw value at c.if-mz.false, rw value at c.if-mz-2.true)

pub returns-else-mz-2 : goal.returns-else-mz-2
returns-else-mz-2 c =
    let value = c.widened-mz.ensures in
    simp (← is_0, ← is_10, ← is_10000, value, rw value at c.if-mz.false, rw value at c.if-mz-2.false)
