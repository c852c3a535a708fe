-- `float_bits::is_nan64` meets its contract.
use lib.Ieee.{binary64}
use Rattle.float_bits.proofs.Patterns.{nan_above}
use Rattle.float_bits.proofs.is_nan64.Goals as goal

pub returns : goal.returns
returns c = nan_above binary64 c.args.b
