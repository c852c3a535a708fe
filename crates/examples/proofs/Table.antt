-- The table of document 01's worked examples: what the definitions that contracts cite give at these values.
use Rattle.std.specs.Prelude.{Some, None}
use mathlib.Core.Path.{◌≡◌, refl}
use mathlib.Core.Bool.{true, false}
use mathlib.Core.List.{List, [], ◌∷◌}
use Prim.Native.Nat.{ℕ}
use lib.IntN.{pos, negsuc}
use lib.Ieee.{Float, nan, fin, binary32, binary64, round, of_int, is_nan, of_bits, to_bits, add, sub, mul, div, eq, lt, le}
use Rattle.refusal.specs.Outcome.{ok}
use Rattle.event_preamble.specs.Size.{size_for_version}
use Rattle.event_window.specs.Window.{lowest, window_of}
use Rattle.event_window.specs.declared.Window.TheVariants.{Ends}
use Rattle.calibration.specs.Convert.{freq_to_mz}
use Rattle.float_narrow.specs.Narrow.{narrow}
use Rattle.noise.specs.Line.{noise_at, noise_of, past, between, fraction}
use Rattle.noise.specs.Nodes.{NodeBits}
use Rattle.float_ten_thousandths.specs.TenThousandths.{scaled, ten_thousandths}
use Rattle.float_bits.specs.Numbers.{largest_mass}

-- n as a float: the same value in both formats, below 2 ^ 24
abbrev whole : ℕ → Float
whole n = of_int binary64 (pos n)

-- its bits as an f64, and as an f32
abbrev bits : ℕ → ℕ
bits n = to_bits binary64 (whole n)

abbrev bits32 : ℕ → ℕ
bits32 n = to_bits binary32 (whole n)

-- the f64 nearest to 0.1
abbrev tenth : Float
tenth = round binary64 false 1 10

-- -0, 3 / 2, and 500.03125, which is 16001 / 32
abbrev minus_zero : Float
minus_zero = fin true 0 (pos 0)

abbrev three_halves : Float
three_halves = fin false 3 (negsuc 0)

abbrev mass : Float
mass = fin false 16001 (negsuc 4)

abbrev node : ℕ → ℕ → ℕ → NodeBits
node mz noise baseline = record { mz = bits32 mz; noise = bits32 noise; baseline = bits32 baseline }

abbrev nodes : List NodeBits
nodes = node 100 1 3 ∷ node 200 2 5 ∷ []

-- halfway between the nodes, by numbers: the kernel reaches its step limit on a pair of terms
halfway_bits : noise_at (whole 150) nodes ≡ Some (0x3fc0_0000, 0x4080_0000)
unfolding of_int round is_nan of_bits to_bits add sub mul div lt le narrow noise_of past between fraction
halfway_bits = refl

three_halves_bits : to_bits binary32 three_halves ≡ 0x3fc0_0000
unfolding to_bits
three_halves_bits = refl

four_bits : bits32 4 ≡ 0x4080_0000
unfolding of_int round to_bits
four_bits = refl

halfway : noise_at (whole 150) nodes ≡ Some (to_bits binary32 three_halves, bits32 4)
halfway = rw (three_halves_bits, four_bits) halfway_bits

-- a and b are coefficients that don't count, and cs are any at all. L2: noise at NaN is none
pub table : (a b : ℕ) (cs : List ℕ)
    → (size_for_version 8 ≡ 41)
    × (size_for_version 9 ≡ 136)
    × (size_for_version 60 ≡ 80)
    × (size_for_version 65 ≡ 136)
    × (window_of tenth tenth ≡ Ends tenth tenth)
    × (window_of tenth (whole 50000) ≡ Ends tenth (whole 50000))
    × (freq_to_mz (whole 2) (a ∷ bits 1 ∷ bits 2 ∷ bits 4 ∷ []) ≡ whole 3)
    × (freq_to_mz (whole 2) (a ∷ b ∷ bits 1 ∷ bits 4 ∷ bits 16 ∷ []) ≡ whole 3)
    × (freq_to_mz minus_zero cs ≡ whole 0)
    × (noise_at (whole 50) nodes ≡ Some (bits32 1, bits32 3))
    × (noise_at (whole 150) nodes ≡ Some (to_bits binary32 three_halves, bits32 4))
    × (noise_at nan nodes ≡ None)
    × (ten_thousandths mass ≡ ok 5000313)
unfolding of_int round is_nan of_bits to_bits add sub mul div eq lt le size_for_version lowest largest_mass freq_to_mz narrow noise_of past between fraction scaled ten_thousandths
table a b cs = (refl, refl, refl, refl, refl, refl, refl, refl, refl, refl, halfway, refl, refl)
