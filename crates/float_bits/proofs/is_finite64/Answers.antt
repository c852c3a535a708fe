-- `float_bits::is_finite64` meets its contract.
use lib.Ieee.{binary64}
use Rattle.float_bits.proofs.Patterns.{finite_below}
use Rattle.float_bits.proofs.is_finite64.Goals as goal

pub returns : goal.returns
returns c = finite_below binary64 c.args.b
