-- The numbers of the code, by their patterns.
use mathlib.Core.Path.{◌≡◌, refl}
use lib.Ieee.{binary64, of_bits, of_int, round}
use Rattle.float_bits.specs.Numbers.{whole, ratio}

pub is_0_002 : of_bits binary64 0x3f60_624d_d2f1_a9fc ≡ ratio 2 1000
unfolding of_bits round
is_0_002 = refl

pub is_0_01 : of_bits binary64 0x3f84_7ae1_47ae_147b ≡ ratio 1 100
unfolding of_bits round
is_0_01 = refl

pub is_0_1 : of_bits binary64 0x3fb9_9999_9999_999a ≡ ratio 1 10
unfolding of_bits round
is_0_1 = refl

pub is_10 : of_bits binary64 0x4024_0000_0000_0000 ≡ whole 10
unfolding of_bits of_int
is_10 = refl

pub is_50 : of_bits binary64 0x4049_0000_0000_0000 ≡ whole 50
unfolding of_bits of_int
is_50 = refl

pub is_300 : of_bits binary64 0x4072_c000_0000_0000 ≡ whole 300
unfolding of_bits of_int
is_300 = refl

pub is_3000 : of_bits binary64 0x40a7_7000_0000_0000 ≡ whole 3000
unfolding of_bits of_int
is_3000 = refl

pub ruleset limits = (is_0_002, is_0_01, is_0_1, is_10, is_50, is_300, is_3000)
