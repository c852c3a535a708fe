-- `float_bits::is_finite32` meets its contract.
use lib.Ieee.{binary32}
use Rattle.float_bits.proofs.Patterns.{finite_below}
use Rattle.float_bits.proofs.is_finite32.Goals as goal

pub returns : goal.returns
returns c = finite_below binary32 c.args.b
