-- `float_bits::widened` meets its contract.
use Rattle.std.proofs.Common.{◌∙◌}
use Rattle.float_bits.proofs.widened.Goals as goal

pub returns : goal.returns
returns c = c.f32_to_f64_with_nan.ensures ∙ c.f32_of_bits.ensures
