-- `noise::noise_between` meets its contract.
use Rattle.noise.specs.Line.{between}
use Rattle.noise.proofs.noise_between.Goals as goal

pub returns : goal.returns
unfolding between
returns c = cc
