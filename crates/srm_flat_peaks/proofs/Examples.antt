-- Flat records by computation: document 01's case, and each way out.
use mathlib.Core.Path.{◌≡◌, refl}
use Prim.Native.Nat.{ℕ}
use mathlib.Core.List.{List, [], ◌∷◌, ◌++◌}
use lib.Ieee.{of_bits, to_bits, lt, eq, of_int}
use lib.ListN.{take}
use Rattle.refusal.specs.Outcome.{ok, refused}
use Rattle.parser.specs.Parser.{parse, repeat, counted}
use Rattle.parser.specs.Call.{outcome}
use Rattle.lists.specs.Left.{pairs_if_fit}
use Rattle.peaks.specs.Peaks.{peak}
use Rattle.srm_flat_peaks.specs.Flat.{peaks_from, attempt, attempts, flat_peaks, read_flat_peaks, find_flat_peaks}

-- the four bytes of an m/z, an abundance of 2.0, and a flag byte
abbrev flagged : List ℕ → List ℕ
flagged mz = mz ++ (0 ∷ 0 ∷ 0 ∷ 64 ∷ 0 ∷ [])

-- 500.03125; 10 and 10,000, which are not plausible; -0.0, which is
abbrev case : List ℕ
case = flagged (0 ∷ 4 ∷ 250 ∷ 67 ∷ [])

abbrev ten : List ℕ
ten = flagged (0 ∷ 0 ∷ 32 ∷ 65 ∷ [])

abbrev ten_thousand : List ℕ
ten_thousand = flagged (0 ∷ 64 ∷ 28 ∷ 70 ∷ [])

abbrev negative_zero : List ℕ
negative_zero = flagged (0 ∷ 0 ∷ 0 ∷ 128 ∷ [])

accepted_first :
    (read_flat_peaks 1 1 0 9 2 case ≡ ok ((0x407f_4080_0000_0000, 0x4000_0000) ∷ []))
    × (read_flat_peaks 1 1 0 9 2 negative_zero ≡ ok ((0x8000_0000_0000_0000, 0x4000_0000) ∷ []))
    × (read_flat_peaks 1 0 0 9 2 case ≡ refused 8 [])
    × (read_flat_peaks 0 0 7 9 1 [] ≡ ok [])
unfolding read_flat_peaks outcome parse flat_peaks attempts attempt peaks_from repeat peak pairs_if_fit counted of_bits to_bits of_int lt eq
accepted_first = (refl, refl, refl, refl)

-- the second attempt starts 9 bytes later, with the second of the two
accepted_second :
    (read_flat_peaks 1 1 0 18 3 (ten ++ case) ≡ ok ((0x407f_4080_0000_0000, 0x4000_0000) ∷ []))
    × (find_flat_peaks 0 18 3 (ten ++ case) ≡ ok (9, 1))
unfolding read_flat_peaks find_flat_peaks outcome parse flat_peaks attempts attempt peaks_from repeat peak pairs_if_fit counted of_bits to_bits of_int lt eq
accepted_second = (refl, refl)

-- neither is plausible; or the section is longer than the cumulative end, wherever the data starts
refused_2 :
    (read_flat_peaks 1 1 0 9 2 ten ≡ refused 2 [])
    × (read_flat_peaks 1 1 0 9 2 ten_thousand ≡ refused 2 [])
    × (read_flat_peaks 1 1 1 8 2 case ≡ refused 2 [])
unfolding read_flat_peaks outcome parse flat_peaks attempts attempt peaks_from repeat peak pairs_if_fit counted of_bits to_bits of_int lt eq
refused_2 = (refl, refl, refl)

-- a first attempt that runs out is not followed by a second. The flag byte may be missing
refused_1 :
    (read_flat_peaks 1 1 0 9 2 (take 7 case) ≡ refused 1 (4 ∷ []))
    × (read_flat_peaks 1 1 0 9 2 (take 8 case) ≡ ok ((0x407f_4080_0000_0000, 0x4000_0000) ∷ []))
unfolding read_flat_peaks outcome parse flat_peaks attempts attempt peaks_from repeat peak pairs_if_fit counted of_bits to_bits of_int lt eq
refused_1 = (refl, refl)
