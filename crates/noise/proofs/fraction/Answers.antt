-- `noise::fraction` meets its contract.
use Rattle.noise.specs.Line.{fraction}
use Rattle.noise.proofs.Zero.{zero_is}
use Rattle.noise.proofs.fraction.Goals as goal

pub returns-then-span : goal.returns-then-span
unfolding fraction
returns-then-span c = simp (← zero_is, c.if-span.true)

pub returns-else-span : goal.returns-else-span
unfolding fraction
returns-else-span c = simp (← zero_is, c.if-span.false)
