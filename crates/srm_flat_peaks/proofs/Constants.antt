-- 0.0, 10 and 10,000 as the code has them, by their patterns.
use mathlib.Core.Path.{◌≡◌, refl}
use lib.Ieee.{binary64, of_bits, of_int}
use Rattle.float_bits.specs.Numbers.{zero_f, whole}

pub is_0 : of_bits binary64 0 ≡ zero_f
unfolding of_bits
is_0 = refl

pub is_10 : of_bits binary64 0x4024_0000_0000_0000 ≡ whole 10
unfolding of_bits of_int
is_10 = refl

pub is_10000 : of_bits binary64 0x40c3_8800_0000_0000 ≡ whole 10000
unfolding of_bits of_int
is_10000 = refl
