-- One attempt, by the tests that decide it; and its peaks by their places.
use mathlib.Core.Path.{◌≡◌, ap, ◌∙◌}
use Prim.Native.Nat.{ℕ, zero, suc, ◌+◌, ◌*◌, ◌-◌, ◌≤◌, ◌<◌}
use native.Mathlib.Nat.{add-zero, zero-add, zero-mul}
use native.Mathlib.Omega.{arith}
use mathlib.Core.Bool.{true, false, cond}
use mathlib.Core.List.{List}
use lib.Dec.{leb}
use lib.Ieee.{binary32, of_bits}
use borrow.Author.Tests.{le-leb, lt-leb, le-ltb, lt-ltb}
use Rattle.std.specs.Prelude.{Some, None, Ok, Err}
use Rattle.refusal.specs.declared.Part.TheVariants.{Data}
use Rattle.refusal.specs.declared.Refusal.TheVariants.{Short}
use Rattle.lists.proofs.Laws.{each_same, each_cons}
use Rattle.parser.specs.Parser.{Parser, done, parsed, bytes, little_endian, remaining, within, parse, counted}
use Rattle.parser.specs.Internal.{Sized, value}
use Rattle.parser.proofs.Fixed.{parse_stage, sized_counted, value_each}
use Rattle.peaks.specs.Peaks.{Peak, peak, peak_at, peaks_at}
use Rattle.peaks.proofs.Columns.{length-peaks}
use Rattle.peaks.proofs.Columns.{widened_same}
use Rattle.srm_flat_peaks.specs.Flat.{is_plausible, looks_valid, accepted, passed_over, peaks_from, attempt}
use Rattle.srm_flat_peaks.specs.Internal.{attempt_answer}

peak_sized : Sized 8 (peak false)
unfolding peak
peak_sized = λ _ _. tt

abbrev pub peaks_of : ℕ → Parser (List Peak)
peaks_of n = counted n 8 (peak false)

pub peaks_sized : (n : ℕ) → Sized (n * 8) (peaks_of n)
unfolding counted
peaks_sized n = sized_counted 8 (peak false) peak_sized n

module _ (s : List ℕ) (place : ℕ) where
  peaks_value : (n : ℕ) → value (peaks_of n) s place 0 ≡ peaks_at false 8 s place n
  unfolding counted peaks_at peak
  peaks_value n =
      let here : (i : ℕ) → 0 + i * 8 ≡ i * 8 = λ i. zero-add (i * 8) in
      let beyond : (i : ℕ) → place + (i * 8 + 4) ≡ place + i * 8 + 4 = λ i. omega arith in
      value_each 8 (peak false) peak_sized n s place 0 ∙ each_same _ _ n (λ i. rw (here i, beyond i))

  pub parse_from : (n at : ℕ) → parse (peaks_from at n) s place
      ≡ within (leb (n * 8) (remaining s place)) (parsed (cond (looks_valid (peaks_at false 8 s place n)) (accepted at (peaks_at false 8 s place n)) passed_over) (place + n * 8))
  unfolding peaks_from parse
  parse_from n at = parse_stage (n * 8) (peaks_of n) (λ ps. done (cond (looks_valid ps) (accepted at ps) passed_over)) (peaks_sized n) s place ∙ rw (peaks_value n)

  -- the first peak decides
  first_decides : (n : ℕ) → 0 < n → looks_valid (peaks_at false 8 s place n) ≡ is_plausible (of_bits binary32 (little_endian (bytes s place 4)))
  unfolding peaks_at
  first_decides zero h = absurd (omega arith)
  first_decides (suc n) h = rw (each_cons (λ i. peak_at false s (place + i * 8)) n, zero-mul, add-zero) (ap is_plausible (widened_same (little_endian (bytes s place 4))))

-- ---- each way out of an attempt
module _ (end cum_end data_size subtract : ℕ) (s : List ℕ) (at : ℕ) where
  pub too_few : data_size ≤ subtract → Ok None ≡ attempt_answer (parse (attempt end cum_end data_size subtract) s at)
  unfolding attempt parse
  too_few t = rw (le-leb _ _ t)

  module _ (t : subtract < data_size) where
    pub too_long : cum_end < (data_size - subtract) * 9 → Ok None ≡ attempt_answer (parse (attempt end cum_end data_size subtract) s at)
    unfolding attempt parse
    too_long u = rw (lt-leb _ _ t, lt-ltb _ _ u)

    module _ (u : (data_size - subtract) * 9 ≤ cum_end) (place : ℕ) (e : place ≡ end - (data_size - subtract) * 9) where
      pub runs_out : remaining s place < (data_size - subtract) * 8 → Err (Short Data) ≡ attempt_answer (parse (attempt end cum_end data_size subtract) s at)
      unfolding attempt parse
      runs_out v = rw (lt-leb _ _ t, le-ltb _ _ u, ← e, parse_from s place (data_size - subtract) place, lt-leb _ _ v)

      module _ (v : (data_size - subtract) * 8 ≤ remaining s place) where
        -- peaks that are there are accepted by the first, or passed over
        by_first : attempt_answer (parse (attempt end cum_end data_size subtract) s at)
            ≡ attempt_answer (parsed (cond (is_plausible (of_bits binary32 (little_endian (bytes s place 4)))) (accepted place (peaks_at false 8 s place (data_size - subtract))) passed_over) (place + (data_size - subtract) * 8))
        unfolding attempt parse
        by_first = rw (lt-leb _ _ t, le-ltb _ _ u, ← e, parse_from s place (data_size - subtract) place, le-leb _ _ v, first_decides s place (data_size - subtract) (omega arith))

        pub plausible_first : is_plausible (of_bits binary32 (little_endian (bytes s place 4))) ≡ true
            → Ok (Some (place, data_size - subtract)) ≡ attempt_answer (parse (attempt end cum_end data_size subtract) s at)
        plausible_first w = rw (by_first, w, length-peaks false 8 s place (data_size - subtract))

        pub implausible_first : is_plausible (of_bits binary32 (little_endian (bytes s place 4))) ≡ false
            → Ok None ≡ attempt_answer (parse (attempt end cum_end data_size subtract) s at)
        implausible_first w = rw (by_first, w)
