-- n / d to the nearest whole number, by how twice the remainder compares with d. The two rules differ at an exact half only.
use Rattle.std.specs.Prelude.{ℕ, ◌+◌, ◌*◌, ◌/◌, ◌%◌, cond, ◌==◌, nat_lt}

-- a half up
abbrev pub nearest_half_up : ℕ → ℕ → ℕ
nearest_half_up n d = cond (nat_lt (n % d * 2) d) (n / d) (n / d + 1)

-- a half to the even one
abbrev pub nearest_half_even : ℕ → ℕ → ℕ
nearest_half_even n d = cond (n % d * 2 == d) (n / d + n / d % 2) (nearest_half_up n d)
