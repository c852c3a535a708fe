-- A mass in ten-thousandths, by its exact binary value. No float is multiplied.
use Rattle.std.specs.Prelude.{ℕ, ◌*◌, ◌&&◌, cond, [], Float}
use Rattle.std.specs.Float.Ieee.{le}
use Rattle.refusal.specs.Outcome.{Outcome, ok, refused}
use Rattle.float_bits.specs.Exact.{num, den}
use Rattle.float_bits.specs.Numbers.{largest_mass, zero_f}
use Rattle.float_bits.specs.Rounding.{nearest_half_up}

-- the ten-thousandths of x without its sign
unfoldable pub scaled : Float → ℕ
scaled x = nearest_half_up (num x * 10000) (den x)

-- refusal 9 for NaN, negative, above 50,000. -0 is not below 0.0
unfoldable pub ten_thousandths : Float → Outcome ℕ
ten_thousandths x = cond (le zero_f x && le x largest_mass) (ok (scaled x)) (refused 9 [])
