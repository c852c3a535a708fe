-- What is the same for every bin of a chunk, worked out once. No public promise cites it.
use Rattle.std.specs.Prelude.{ℕ, cond, ◌||◌, List, length, ◌==◌, from_bits, Float}
use Rattle.std.specs.Float.{nan, binary32, binary64}
use Rattle.std.specs.Float.Ieee.{add, mul, eq}
use Rattle.calibration.specs.Convert.{coefficient, series}
use Rattle.calibration.specs.declared.Bins.{Bins}
use Rattle.calibration.specs.declared.ChunkBins.{ChunkBins}
use Rattle.calibration.specs.declared.Conversion.{Conversion}
use Rattle.calibration.specs.declared.Conversion.TheVariants.{None, Frequency, SquaredFrequency, Unknown}
use Rattle.float_bits.specs.Numbers.{zero_f, whole}

-- the cases of `by_length`, with the coefficients that count
abbrev pub conversion_by_length : ℕ → List ℕ → Conversion
conversion_by_length n cs =
    cond (n == 0) None
    (cond (n == 4) (Frequency (coefficient cs 1) (coefficient cs 2) (coefficient cs 3))
    (cond (n == 5 || n == 7) (SquaredFrequency (coefficient cs 2) (coefficient cs 3) (coefficient cs 4)) Unknown))

abbrev pub conversion_of : List ℕ → Conversion
conversion_of cs = conversion_by_length (length cs) cs

-- a frequency that is not zero
abbrev pub converted : Conversion → Float → Float
converted None freq = freq
converted (Frequency a b c) freq = series a b c freq
converted (SquaredFrequency a b c) freq = series a b c (mul binary64 freq freq)
converted Unknown freq = nan

-- `freq_to_mz` from a conversion
abbrev pub mz_by : Conversion → Float → Float
mz_by conversion freq = cond (eq freq zero_f) zero_f (converted conversion freq)

-- the numbers that a chunk's bits stand for
abbrev pub chunk_bins : Bins → ℕ → ℕ → ChunkBins
chunk_bins bins first_bin fudge =
    record {
      first_value = from_bits binary64 bins.first_value;
      step = from_bits binary64 bins.step;
      first_bin = whole first_bin;
      fudge = from_bits binary32 fudge;
    }

-- `mz_of` from what was worked out
abbrev pub mz_on : ChunkBins → Conversion → ℕ → Float
mz_on bins conversion i =
    let bin_global = add binary64 bins.first_bin (whole i) in
    add binary64 (mz_by conversion (add binary64 bins.first_value (mul binary64 bin_global bins.step))) bins.fudge
