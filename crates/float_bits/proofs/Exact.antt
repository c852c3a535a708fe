-- The exact value as the library's fraction, for which it has laws.
use Rattle.std.proofs.Common.{◌≡◌, pos, negsuc, sym, refl, mul-one}
use lib.Ieee.{Float, nan, inf, fin}
use lib.Ieee.Positive as library
use Rattle.float_bits.specs.Exact.{num, den}

pub num_is : (x : Float) → num x ≡ library.num x
num_is nan = refl
num_is (inf s) = refl
num_is (fin s m (pos k)) = refl
num_is (fin s m (negsuc k)) = sym (mul-one m)

pub den_is : (x : Float) → den x ≡ library.den x
den_is nan = refl
den_is (inf s) = refl
den_is (fin s m (pos k)) = refl
den_is (fin s m (negsuc k)) = refl
