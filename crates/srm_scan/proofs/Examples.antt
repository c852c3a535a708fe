-- SRM scans by computation: one channel, none, and bytes that break off.
use mathlib.Core.Path.{◌≡◌, refl}
use Prim.Native.Nat.{ℕ}
use mathlib.Core.List.{List, [], ◌∷◌, ◌++◌}
use lib.Ieee.{of_bits, to_bits}
use lib.ListN.{take, replicate}
use Rattle.refusal.specs.Outcome.{ok, refused}
use Rattle.parser.specs.Parser.{parse, repeat, counted}
use Rattle.parser.specs.Call.{outcome}
use Rattle.lists.specs.Left.{pairs_if_fit}
use Rattle.peaks.specs.Peaks.{peak}
use Rattle.srm_scan.specs.Scan.{scan, channel, peaks, read_srm_peaks, find_srm_peaks, window, windows, read_srm_windows}

-- a byte, then a scan: one channel; its window of 10 to 100; its number 7, 500.03125 and 2.0
abbrev one : List ℕ
one =
    0 ∷ 1 ∷ 0 ∷ 0 ∷ 0 ∷ [] ++ replicate 28 0 ++ (0 ∷ 0 ∷ 32 ∷ 65 ∷ 0 ∷ 0 ∷ 200 ∷ 66 ∷ [])
    ++ (7 ∷ 0 ∷ 0 ∷ 0 ∷ 0 ∷ 4 ∷ 250 ∷ 67 ∷ 0 ∷ 0 ∷ 0 ∷ 64 ∷ [])

peaks_of_one :
    (read_srm_peaks 1 1 1 0 one ≡ ok ((0x407f_4080_0000_0000, 0x4000_0000) ∷ []))
    × (find_srm_peaks 0 1 one ≡ ok (45, 1))
    × (read_srm_peaks 1 0 0 1 one ≡ refused 8 [])
    × (read_srm_peaks 1 1 0 1 (take 52 one) ≡ refused 1 (4 ∷ []))
    × (read_srm_peaks 0 0 1 1 (0 ∷ 0 ∷ 0 ∷ 0 ∷ 0 ∷ 0 ∷ []) ≡ ok [])
unfolding read_srm_peaks find_srm_peaks outcome parse scan peaks channel counted repeat peak pairs_if_fit of_bits to_bits
peaks_of_one = (refl, refl, refl, refl, refl)

windows_of_one :
    (read_srm_windows 1 1 0 1 one ≡ ok ((0x4120_0000, 0x42c8_0000) ∷ []))
    × (read_srm_windows 1 1 0 1 (take 41 one) ≡ ok ((0x4120_0000, 0x42c8_0000) ∷ []))
    × (read_srm_windows 1 1 0 1 (take 40 one) ≡ refused 1 (4 ∷ []))
    × (read_srm_windows 0 1 0 1 one ≡ refused 8 [])
unfolding read_srm_windows outcome parse scan windows window counted repeat pairs_if_fit
windows_of_one = (refl, refl, refl, refl)
