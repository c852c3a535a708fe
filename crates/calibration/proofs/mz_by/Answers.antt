-- `calibration::mz_by` meets its contract: an unknown conversion gives the NaN.
use Rattle.std.proofs.Common.{refl}
use lib.Ieee.{div, of_bits}
use Rattle.calibration.specs.declared.Conversion.TheVariants.{Unknown}
use Rattle.calibration.proofs.Conversions.{past_zero}
use Rattle.calibration.proofs.mz_by.Goals as goal

pub returns-in-Unknown : goal.returns-in-Unknown
unfolding div of_bits
returns-in-Unknown c = past_zero _ Unknown _ _ c.if-freq.false c.in-Unknown.is refl
