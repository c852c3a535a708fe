-- `float_bits::is_nan32` meets its contract.
use lib.Ieee.{binary32}
use Rattle.float_bits.proofs.Patterns.{nan_above}
use Rattle.float_bits.proofs.is_nan32.Goals as goal

pub returns : goal.returns
returns c = nan_above binary32 c.args.b
