-- 0.0 and 50,000 as the code has them, by their patterns.
use mathlib.Core.Path.{◌≡◌, refl}
use lib.Ieee.{binary64, of_bits, of_int}
use Rattle.float_bits.specs.Numbers.{zero_f, largest_mass}

pub zero_is : of_bits binary64 0 ≡ zero_f
unfolding of_bits
zero_is = refl

pub limit_is : of_bits binary64 0x40e8_6a00_0000_0000 ≡ largest_mass
unfolding of_bits of_int largest_mass
limit_is = refl
