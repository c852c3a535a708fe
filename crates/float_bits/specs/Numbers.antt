-- Numbers that definitions name.
use Rattle.std.specs.Prelude.{ℕ, false, pos, Float}
use Rattle.std.specs.Float.{fin, binary64}
use Rattle.std.specs.Float.Ieee.{of_int, round}

-- 0.0, of either format
abbrev pub zero_f : Float
zero_f = fin false 0 (pos 0)

-- the f64 nearest to n, which is n below 2^53, and the one nearest to n / d
abbrev pub whole : ℕ → Float
whole n = of_int binary64 (pos n)

abbrev pub ratio : ℕ → ℕ → Float
ratio n d = round binary64 false n d

-- 50,000, where masses end
unfoldable pub largest_mass : Float
largest_mass = whole 50000
