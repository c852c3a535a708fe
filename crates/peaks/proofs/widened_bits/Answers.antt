-- `peaks::widened_bits` meets its contract.
use mathlib.Core.Path.{ap, ◌∙◌}
use lib.Ieee.{binary64, to_bits}
use Rattle.peaks.proofs.widened_bits.Goals as goal

pub returns : goal.returns
returns c = c.bits_of_f64.ensures ∙ ap (to_bits binary64) c.widened.ensures
