-- `float_bits::is_finite` meets its contract: the pattern of x is read as x, since an `f64` holds x.
use Rattle.std.proofs.Common.{T, sym, ap, ◌∙◌, subst}
use lib.Ieee.{binary64, of_bits}
use lib.Ieee.Bits.{of_bits-to_bits}
use lib.Ieee.Scale.{finite}
use Rattle.float_bits.proofs.is_finite.Goals as goal

pub returns : goal.returns
returns c =
    c.is_finite64.ensures
    ∙ ap (λ b. finite (of_bits binary64 b)) c.bits_of_f64.ensures
    ∙ ap finite (of_bits-to_bits binary64 c.args.x (subst T (sym c.well_formed.0.1) tt))
