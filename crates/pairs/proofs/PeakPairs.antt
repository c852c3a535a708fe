-- The pairs of a row of peaks: each number is the value of what is stored.
use mathlib.Core.Path.{◌≡◌, refl, ap, sym, ◌∙◌}
use Prim.Native.Nat.{ℕ, ◌+◌, ◌*◌}
use mathlib.Core.Bool.{Bool, true, false}
use mathlib.Core.List.{List}
use lib.Ieee.{binary32, binary64, of_bits, Float}
use lib.ListN.{length, length-map}
use Rattle.lists.proofs.Laws.{each_same, map_each}
use Rattle.parser.specs.Parser.{word_at, f64_at, f32_at}
use Rattle.peaks.specs.Peaks.{peak_at, peaks_at, value_at, row_values, row_peaks}
use Rattle.peaks.specs.declared.PeakRow.{PeakRow}
use Rattle.peaks.proofs.Columns.{length-peaks, widened_same}
use Rattle.pairs.specs.Pairs.{Pair, peak_pairs}

pub peak_pairs_are : (row : PeakRow) (s : List ℕ) → row_values f64_at f32_at f32_at row s ≡ peak_pairs (row_peaks row s)
unfolding row_values peak_pairs peaks_at
peak_pairs_are row s = rw map_each (each_same _ _ row.count (λ i. go row.wide (row.at + i * row.stride)))
  where
    go : (w : Bool) (p : ℕ) → ◌≡◌ {A = Pair} (value_at f64_at f32_at f32_at w s p) (of_bits binary64 (peak_at w s p).0, of_bits binary32 (peak_at w s p).1)
    go true p = refl
    go false p = ap (λ (x : Float). (x, f32_at s (p + 4))) (sym (widened_same (word_at s p 4)))

pub length-peak_pairs : (wide : Bool) (stride : ℕ) (s : List ℕ) (at n : ℕ) → length (peak_pairs (peaks_at wide stride s at n)) ≡ n
unfolding peak_pairs
length-peak_pairs wide stride s at n = length-map (peaks_at wide stride s at n) _ ∙ length-peaks wide stride s at n
