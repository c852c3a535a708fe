-- `float_bits::absolute` meets its contract: the pattern of x with its sign off is read as x without its sign.
use Rattle.std.proofs.Common.{◌%◌, ◌^◌, T, sym, ap, ◌∙◌, subst}
use lib.Ieee.{binary64, of_bits, to_bits}
use lib.Ieee.Bits.{of_bits-to_bits}
use Rattle.float_bits.specs.Absolute.{absolute}
use Rattle.float_bits.proofs.Patterns.{absolute_bits}
use Rattle.float_bits.proofs.absolute.Goals as goal

pub returns : goal.returns
returns c =
    let x = c.args.x in
    c.f64_of_bits.ensures
    ∙ ap (λ b. of_bits binary64 (b % 2 ^ 63)) c.bits_of_f64.ensures
    ∙ absolute_bits binary64 (to_bits binary64 x)
    ∙ ap absolute (of_bits-to_bits binary64 x (subst T (sym c.well_formed.0.1) tt))
