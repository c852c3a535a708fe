-- `calibration::freq_to_mz` meets its contract.
use Rattle.std.proofs.Common.{◌∙◌}
use Rattle.calibration.proofs.Conversions.{mz_by_conversion}
use Rattle.calibration.proofs.freq_to_mz.Goals as goal

pub returns : goal.returns
returns c = c.mz_by.ensures ∙ rw c.conversion_of.ensures (mz_by_conversion _ _)
