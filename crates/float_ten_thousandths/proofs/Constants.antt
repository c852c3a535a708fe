-- The code's constants, which it has by their patterns.
use mathlib.Core.Path.{◌≡◌, refl}
use mathlib.Core.Bool.{false}
use lib.IntN.{negsuc}
use lib.Ieee.{Float, fin, binary64, of_int, of_bits}
use Rattle.float_bits.specs.Numbers.{zero_f, largest_mass}

pub zero_is : of_bits binary64 0 ≡ zero_f
unfolding of_bits
zero_is = refl

pub limit_is : of_bits binary64 0x40e8_6a00_0000_0000 ≡ largest_mass
unfolding of_bits of_int largest_mass
limit_is = refl

-- 2 ^ -15
abbrev pub least : Float
least = fin false 1 (negsuc 14)

pub least_is : of_bits binary64 0x3f00_0000_0000_0000 ≡ least
unfolding of_bits
least_is = refl
