-- Flat peaks (`read_flat_peaks` of scan_data.rs).
use Rattle.std.specs.Prelude.{ℕ, ◌*◌, ◌-◌, Bool, true, false, ◌&&◌, ◌||◌, cond, List, [], ◌∷◌, leb, ltb, Float, length}
use Rattle.std.specs.Float.{binary64}
use Rattle.std.specs.Float.Ieee.{of_bits, lt, eq}
use Rattle.refusal.specs.Outcome.{Outcome, ok, refused}
use Rattle.parser.specs.Parser.{Parser, done, seek, ◌>>=◌, counted, saturating_add}
use Rattle.parser.specs.Call.{outcome, single}
use Rattle.lists.specs.Left.{pairs_if_fit}
use Rattle.peaks.specs.Peaks.{Peak, peak}
use Rattle.float_bits.specs.Numbers.{whole, zero_f}

-- a plausible m/z: zero of either sign, or between 10 and 10,000, both excluded
abbrev pub is_plausible : Float → Bool
is_plausible mz = eq mz zero_f || (lt (whole 10) mz && lt mz (whole 10000))

-- peaks are accepted by the first of them
abbrev pub looks_valid : List Peak → Bool
looks_valid [] = true
looks_valid (first ∷ rest) = is_plausible (of_bits binary64 first.0)

-- what an attempt comes to: the place of the first peak, and the peaks
pub data Attempt : Type 0 where
  accepted : ℕ → List Peak → Attempt
  passed_over : Attempt

-- so many peaks, from a place on
unfoldable pub peaks_from : ℕ → ℕ → Parser Attempt
peaks_from place count = do
  peaks ← counted count 8 (peak false)
  done (cond (looks_valid peaks) (accepted place peaks) passed_over)

-- an attempt at data_size - subtract peaks. The record ends with the peaks and a flag byte for each: 9 bytes a peak, which
-- are no more than the cumulative end. The flag bytes are not read
unfoldable pub attempt : ℕ → ℕ → ℕ → ℕ → Parser Attempt
attempt end cum_end data_size subtract =
    let count = data_size - subtract in
    let start = end - count * 9 in
    cond (leb data_size subtract || ltb cum_end (count * 9)) (done passed_over) (seek start (peaks_from start count))

-- the next attempt, where this one was passed over
abbrev pub or_else : Parser Attempt → Attempt → Parser Attempt
or_else next (accepted place peaks) = done (accepted place peaks)
or_else next passed_over = next

-- data_size - 1 peaks, then data_size - 2
unfoldable pub attempts : ℕ → ℕ → ℕ → Parser Attempt
attempts end cum_end data_size = attempt end cum_end data_size 1 >>= or_else (attempt end cum_end data_size 2)

-- a data size of 0 or 1 has no peaks
unfoldable pub flat_peaks : ℕ → ℕ → ℕ → Parser Attempt
flat_peaks end cum_end data_size = cond (leb data_size 1) (done (accepted end [])) (attempts end cum_end data_size)

-- what follows of accepted peaks; refusal 2 where there are none
abbrev pub of_accepted : {A : Type 0} → (ℕ → List Peak → Outcome A) → Attempt → Outcome A
of_accepted f (accepted place peaks) = f place peaks
of_accepted f passed_over = refused 2 []

-- the record ends where the data's place and the cumulative end lead, added without passing the largest u64
abbrev pub of_record : {A : Type 0} → (ℕ → List Peak → Outcome A) → ℕ → ℕ → ℕ → List ℕ → Outcome A
of_record f place cum_end data_size run =
    let end = saturating_add place cum_end in
    outcome (single 4 end (flat_peaks end cum_end data_size) (λ a _. of_accepted f a)) run

-- what `read_flat_peaks` answers, where slices of these capacities are lent
unfoldable pub read_flat_peaks : ℕ → ℕ → ℕ → ℕ → ℕ → List ℕ → Outcome (List Peak)
read_flat_peaks mz abundance = of_record (λ _ peaks. pairs_if_fit mz abundance peaks)

-- what `find_flat_peaks` answers: the place of the first peak, and how many there are. Each takes 8 bytes
unfoldable pub find_flat_peaks : ℕ → ℕ → ℕ → List ℕ → Outcome (ℕ × ℕ)
find_flat_peaks = of_record (λ place peaks. ok (place, length peaks))
