-- The m/z by a conversion, which is `freq_to_mz`.
use Rattle.std.proofs.Common.{◌≡◌, ℕ, Bool, true, false, cond, ◌||◌, eqb, List, length, refl, ap, ◌∙◌}
use lib.Ieee.{Float, binary32, binary64, add, eq, of_bits}
use Rattle.lists.specs.Written.{each, over}
use Rattle.lists.proofs.Laws.{each_same}
use Rattle.calibration.specs.Convert.{coefficient, freq_to_mz, mz_of}
use Rattle.calibration.specs.Internal.{conversion_of, converted, mz_by, chunk_bins, mz_on}
use Rattle.calibration.specs.declared.Bins.{Bins}
use Rattle.calibration.specs.declared.ChunkBins.{ChunkBins}
use Rattle.calibration.specs.declared.Conversion.{Conversion}
use Rattle.calibration.specs.declared.Conversion.TheVariants.{None, Frequency, SquaredFrequency, Unknown}
use Rattle.float_bits.specs.Numbers.{zero_f}

-- 0.0 as the code has it, by its pattern
zero_is : of_bits binary64 0 ≡ zero_f
unfolding of_bits
zero_is = refl

-- ---- the m/z by a conversion
-- a value that the known conversion gives
pub past_zero : (conversion known : Conversion) (freq v : Float) → eq freq (of_bits binary64 0) ≡ false → conversion ≡ known → v ≡ converted known freq
    → v ≡ mz_by conversion freq
past_zero conversion known freq v z e h = rw (e, h) (simp (← zero_is, z))

-- ---- which is the m/z by the coefficients
by_tests : (none four more : Bool) (freq : Float) (a b : Conversion)
    → converted (cond none None (cond four a (cond more b Unknown))) freq ≡ cond none freq (cond four (converted a freq) (cond more (converted b freq) (converted Unknown freq)))
by_tests true four more freq a b = refl
by_tests false true more freq a b = refl
by_tests false false true freq a b = refl
by_tests false false false freq a b = refl

pub mz_by_conversion : (freq : Float) (cs : List ℕ) → mz_by (conversion_of cs) freq ≡ freq_to_mz freq cs
unfolding freq_to_mz
mz_by_conversion freq cs = ap (cond (eq freq zero_f) zero_f) (
    by_tests (eqb (length cs) 0) (eqb (length cs) 4) (eqb (length cs) 5 || eqb (length cs) 7) freq
    (Frequency (coefficient cs 1) (coefficient cs 2) (coefficient cs 3)) (SquaredFrequency (coefficient cs 2) (coefficient cs 3) (coefficient cs 4)))

-- ---- at a chunk's bins
mz_on_bins : (bins : Bins) (first_bin fudge : ℕ) (cs : List ℕ) (i : ℕ) → mz_on (chunk_bins bins first_bin fudge) (conversion_of cs) i ≡ mz_of bins first_bin fudge cs i
unfolding mz_of
mz_on_bins bins first_bin fudge cs i = ap (λ (m : Float). add binary64 m (of_bits binary32 fudge)) (mz_by_conversion _ cs)

pub mz_written : (common : ChunkBins) (conversion : Conversion) (bins : Bins) (first_bin fudge : ℕ) (cs : List ℕ) (n : ℕ) (xs X : List Float)
    → X ≡ over (each (mz_on common conversion) n) xs → conversion ≡ conversion_of cs → common ≡ chunk_bins bins first_bin fudge → X ≡ over (each (mz_of bins first_bin fudge cs) n) xs
mz_written common conversion bins first_bin fudge cs n xs X h hl ha = h ∙ rw (ha, hl, each_same _ _ n (mz_on_bins bins first_bin fudge cs))
