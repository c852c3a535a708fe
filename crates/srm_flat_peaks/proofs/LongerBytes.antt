-- Demand 3 for flat peaks. The data size has 32 bits.
use mathlib.Core.Path.{◌≡◌}
use Prim.Native.Nat.{ℕ, ◌*◌, ◌-◌, ◌^◌, ◌≤◌, ◌<◌}
use native.Mathlib.Omega.{arith}
use mathlib.Core.Bool.{Bool, true, false, cond, ◌||◌}
use mathlib.Core.List.{List, []}
use lib.Dec.{leb, ltb, lit≤}
use lib.ListN.{length}
use Rattle.refusal.specs.Outcome.{Outcome, ok}
use Rattle.refusal.proofs.OneAnswer.{answer_one}
use Rattle.parser.specs.Parser.{Parser, done, seek, saturating_add}
use Rattle.parser.specs.LongerBytes.{OnLongerBytes, PrefixProperty, Names, Completes}
use Rattle.parser.proofs.Completion.{Bounded, extent, bounded_sized, bounded_bind, bounded_more, invariant_any}
use Rattle.parser.proofs.Calls.{not_truncated_pairs, NotTruncated}
use Rattle.peaks.proofs.OnePart.{call_prefix, call_names, call_completes, call_longer, pairs_longer}
use Rattle.refusal.specs.Number.{outcome_of}
use Rattle.lists.specs.Left.{pairs_if_fit, LeftPairs}
use Rattle.peaks.specs.Peaks.{Peak}
use Rattle.srm_flat_peaks.specs.Flat.{Attempt, accepted, passed_over, looks_valid, peaks_from, attempt, or_else, attempts, flat_peaks, of_accepted, read_flat_peaks, find_flat_peaks}
use Rattle.srm_flat_peaks.proofs.Attempts.{peaks_of, peaks_sized}

module _ (end cum_end data_size : ℕ) (near : end < 2 ^ 62) (size : data_size < 2 ^ 32) where
  -- peaks ask for at most 2^35 bytes
  from_bounded : (place n : ℕ) → n < 2 ^ 32 → Bounded (2 ^ 62) (2 ^ 35) (peaks_from place n)
  unfolding peaks_from
  from_bounded place n few =
      bounded_bind (λ _. Unit {0}) (λ ps. done (cond (looks_valid ps) (accepted place ps) passed_over)) (2 ^ 62) (2 ^ 35) 0 (λ _ _. lit≤ tt) (λ _ _. tt) (peaks_of n) (invariant_any (peaks_of n))
      (bounded_sized (2 ^ 62) (n * 8) (2 ^ 35) (peaks_of n) (omega arith) (peaks_sized n))

  attempt_bounded : (subtract : ℕ) → Bounded (2 ^ 62) (2 ^ 35) (attempt end cum_end data_size subtract)
  unfolding attempt
  attempt_bounded subtract = go (leb data_size subtract || ltb cum_end ((data_size - subtract) * 9)) (end - (data_size - subtract) * 9) (data_size - subtract) (omega arith) (omega arith)
    where
      go : (b : Bool) (start n : ℕ) → start ≤ 2 ^ 62 → n < 2 ^ 32
          → Bounded (2 ^ 62) (2 ^ 35) (cond b (done passed_over) (seek start (peaks_from start n)))
      go true start n p q = tt
      go false start n p q = (p, from_bounded start n q)

  -- the second attempt starts with a seek
  attempt_extent : (subtract : ℕ) → extent (attempt end cum_end data_size subtract) ≤ 0
  unfolding attempt
  attempt_extent subtract = go (leb data_size subtract || ltb cum_end ((data_size - subtract) * 9)) (end - (data_size - subtract) * 9) (data_size - subtract)
    where
      go : (b : Bool) (start n : ℕ) → extent (cond b (done passed_over) (seek start (peaks_from start n))) ≤ 0
      go true start n = lit≤ tt
      go false start n = lit≤ tt

  next_extent : (a : Attempt) → extent (or_else (attempt end cum_end data_size 2) a) ≤ 0
  next_extent (accepted place peaks) = lit≤ tt
  next_extent passed_over = attempt_extent 2

  next_bounded : (a : Attempt) → Bounded (2 ^ 62) (2 ^ 35) (or_else (attempt end cum_end data_size 2) a)
  next_bounded (accepted place peaks) = tt
  next_bounded passed_over = attempt_bounded 2

  attempts_bounded : Bounded (2 ^ 62) (2 ^ 35) (attempts end cum_end data_size)
  unfolding attempts
  attempts_bounded =
      bounded_bind (λ _. Unit {0}) (or_else (attempt end cum_end data_size 2)) (2 ^ 62) (2 ^ 35) 0 (λ a _. next_extent a) (λ a _. next_bounded a)
      (attempt end cum_end data_size 1) (invariant_any (attempt end cum_end data_size 1)) (attempt_bounded 1)

  pub flat_bounded : Bounded (2 ^ 62) (2 ^ 61) (flat_peaks end cum_end data_size)
  unfolding flat_peaks
  flat_bounded = go (leb data_size 1)
    where
      go : (b : Bool) → Bounded (2 ^ 62) (2 ^ 61) (cond b (done (accepted end [])) (attempts end cum_end data_size))
      go true = tt
      go false = bounded_more (2 ^ 62) (2 ^ 35) (2 ^ 61) (attempts end cum_end data_size) (lit≤ tt) attempts_bounded

pub accepted_not_truncated : {A : Type 0} (f : ℕ → List Peak → Outcome A) → ((place : ℕ) (peaks : List Peak) → NotTruncated (f place peaks)) → (a : Attempt) → NotTruncated (of_accepted f a)
accepted_not_truncated f h (accepted place peaks) = h place peaks
accepted_not_truncated f h passed_over = tt

module _ (place cum_end data_size : ℕ) where
  abbrev end : ℕ
  end = saturating_add place cum_end

  abbrev parser : Parser Attempt
  parser = flat_peaks end cum_end data_size

  -- what is made of an attempt
  abbrev placed : Attempt → Outcome (ℕ × ℕ)
  placed = of_accepted (λ p peaks. ok (p, length peaks))

  abbrev fitted : ℕ → ℕ → Attempt → Outcome (List Peak)
  fitted m a = of_accepted (λ _ peaks. pairs_if_fit m a peaks)

  placed_done : (a : Attempt) → NotTruncated (placed a)
  placed_done a = accepted_not_truncated (λ p peaks. ok (p, length peaks)) (λ _ _. tt) a

  fitted_done : (m n : ℕ) (a : Attempt) → NotTruncated (fitted m n a)
  fitted_done m n a = accepted_not_truncated (λ _ peaks. pairs_if_fit m n peaks) (λ _ peaks. not_truncated_pairs m n peaks) a

  pub find_prefix : PrefixProperty (find_flat_peaks place cum_end data_size)
  unfolding find_flat_peaks
  find_prefix = call_prefix 4 end parser placed

  pub find_names : Names (λ q. q ≡ 4) (find_flat_peaks place cum_end data_size)
  unfolding find_flat_peaks
  find_names = call_names 4 end parser placed placed_done

  module _ (size : data_size < 2 ^ 32) where
    bounded : end < 2 ^ 62 → Bounded (2 ^ 62) (2 ^ 61) parser
    bounded near = flat_bounded end cum_end data_size near size

    pub find_completes : Completes 4 end (find_flat_peaks place cum_end data_size)
    unfolding find_flat_peaks
    find_completes = call_completes 4 end parser bounded placed placed_done

    pub find_longer : OnLongerBytes outcome_of (λ s r (_ : Unit {0}). outcome_of r ≡ find_flat_peaks place cum_end data_size s) (λ q. q ≡ 4) (λ _ _. end < 2 ^ 62)
    unfolding find_flat_peaks
    find_longer = call_longer 4 end parser bounded outcome_of answer_one placed placed_done

    pub flat_longer : (mz abundance : List ℕ)
        → OnLongerBytes outcome_of (λ s r (ys : List ℕ × List ℕ). LeftPairs (λ m a. read_flat_peaks m a place cum_end data_size s) mz abundance r ys.0 ys.1) (λ q. q ≡ 4)
        (λ _ _. end < 2 ^ 62)
    unfolding read_flat_peaks
    flat_longer = pairs_longer 4 end parser bounded fitted fitted_done
