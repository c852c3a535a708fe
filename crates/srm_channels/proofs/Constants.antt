-- The numbers of the code, by their patterns.
use mathlib.Core.Path.{◌≡◌, refl}
use lib.Ieee.{binary64, of_bits, of_int}
use Rattle.float_bits.specs.Numbers.{whole}

pub is_0 : of_bits binary64 0 ≡ whole 0
unfolding of_bits of_int
is_0 = refl

pub is_5 : of_bits binary64 0x4014_0000_0000_0000 ≡ whole 5
unfolding of_bits of_int
is_5 = refl

pub is_500 : of_bits binary64 0x407f_4000_0000_0000 ≡ whole 500
unfolding of_bits of_int
is_500 = refl

pub is_2000 : of_bits binary64 0x409f_4000_0000_0000 ≡ whole 2000
unfolding of_bits of_int
is_2000 = refl
