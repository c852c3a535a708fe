-- Demand 3 for the SRM scans.
use mathlib.Core.Path.{◌≡◌}
use Prim.Native.Nat.{ℕ, ◌+◌, ◌*◌, ◌^◌, ◌≤◌, ◌<◌}
use native.Mathlib.Nat.{mul-le-mul_left}
use native.Mathlib.Omega.{arith}
use mathlib.Core.Bool.{Bool, true, false, cond}
use mathlib.Core.List.{List, []}
use lib.Dec.{eqb, lit≤}
use lib.ListN.{length}
use Rattle.refusal.specs.Outcome.{Outcome, ok}
use Rattle.refusal.proofs.OneAnswer.{answer_one}
use Rattle.parser.specs.Parser.{Parser, done, skip, ◌>>◌, saturating_add}
use Rattle.parser.specs.Internal.{Sized}
use Rattle.parser.specs.LongerBytes.{OnLongerBytes, PrefixProperty, Names, Completes}
use Rattle.parser.proofs.Completion.{Bounded, extent, extent_sized, bounded_sized, bounded_word, bounded_more}
use Rattle.parser.proofs.Calls.{not_truncated_pairs}
use Rattle.peaks.proofs.OnePart.{call_prefix, call_names, call_completes, call_longer, pairs_longer}
use Rattle.refusal.specs.Number.{outcome_of}
use Rattle.lists.specs.Left.{pairs_if_fit, LeftPairs}
use Rattle.peaks.specs.Peaks.{Peak}
use Rattle.srm_scan.specs.Scan.{scan, peaks, read_srm_peaks, find_srm_peaks, windows, read_srm_windows}
use Rattle.srm_scan.proofs.Tables.{skipped_sized, peaks_sized, windows_sized}

-- a scan asks for at most 4 + 2^37 bytes
module _ {A : Type 0} (size : ℕ) (few : size ≤ 20) (table : ℕ → Parser (List A)) (sized : (n : ℕ) → Sized (n * size) (table n)) where
  table_most : (n : ℕ) → n < 256 ^ 4 → 28 + n * size ≤ 2 ^ 37
  table_most n h = omega (arith, mul-le-mul_left n few)

  either_extent : (b : Bool) (n : ℕ) → n < 256 ^ 4 → extent (cond b (done []) (skip 28 >> table n)) ≤ 2 ^ 37
  either_extent true n h = omega arith
  either_extent false n h = omega (arith, extent_sized (28 + n * size) (skip 28 >> table n) (skipped_sized size table sized n), table_most n h)

  either_bounded : (b : Bool) (n : ℕ) → n < 256 ^ 4 → Bounded (2 ^ 62) (4 + 2 ^ 37) (cond b (done []) (skip 28 >> table n))
  either_bounded true n h = tt
  either_bounded false n h =
      bounded_sized (2 ^ 62) (28 + n * size) (4 + 2 ^ 37) (skip 28 >> table n) (omega (arith, table_most n h)) (skipped_sized size table sized n)

  scan_bounded : Bounded (2 ^ 62) (2 ^ 61) (scan table)
  unfolding scan
  scan_bounded =
      bounded_more (2 ^ 62) (4 + 2 ^ 37) (2 ^ 61) (scan table) (lit≤ tt)
      (bounded_word (2 ^ 62) 4 (2 ^ 37) (λ n. cond (eqb n 0) (done []) (skip 28 >> table n)) (λ n h. either_extent (eqb n 0) n h) (λ n h. either_bounded (eqb n 0) n h))

pub peaks_bounded : Bounded (2 ^ 62) (2 ^ 61) (scan peaks)
peaks_bounded = scan_bounded 20 (lit≤ tt) peaks peaks_sized

windows_bounded : Bounded (2 ^ 62) (2 ^ 61) (scan windows)
windows_bounded = scan_bounded 8 (lit≤ tt) windows windows_sized

module _ (place offset : ℕ) where
  abbrev at : ℕ
  at = saturating_add place offset

  abbrev placed : List Peak → Outcome (ℕ × ℕ)
  placed ps = ok (at + 36 + length ps * 8, length ps)

  pub find_prefix : PrefixProperty (find_srm_peaks place offset)
  unfolding find_srm_peaks
  find_prefix = call_prefix 4 at (scan peaks) placed

  pub find_names : Names (λ q. q ≡ 4) (find_srm_peaks place offset)
  unfolding find_srm_peaks
  find_names = call_names 4 at (scan peaks) placed (λ _. tt)

  pub find_completes : Completes 4 at (find_srm_peaks place offset)
  unfolding find_srm_peaks
  find_completes = call_completes 4 at (scan peaks) (λ _. peaks_bounded) placed (λ _. tt)

  pub find_longer : OnLongerBytes outcome_of (λ s r (_ : Unit {0}). outcome_of r ≡ find_srm_peaks place offset s) (λ q. q ≡ 4) (λ _ _. at < 2 ^ 62)
  unfolding find_srm_peaks
  find_longer = call_longer 4 at (scan peaks) (λ _. peaks_bounded) outcome_of answer_one placed (λ _. tt)

  pub srm_longer : (mz abundance : List ℕ)
      → OnLongerBytes outcome_of (λ s r (ys : List ℕ × List ℕ). LeftPairs (λ m a. read_srm_peaks m a place offset s) mz abundance r ys.0 ys.1) (λ q. q ≡ 4) (λ _ _. at < 2 ^ 62)
  unfolding read_srm_peaks
  srm_longer = pairs_longer 4 at (scan peaks) (λ _. peaks_bounded) pairs_if_fit not_truncated_pairs

  pub windows_longer : (low high : List ℕ)
      → OnLongerBytes outcome_of (λ s r (ys : List ℕ × List ℕ). LeftPairs (λ l h. read_srm_windows l h place offset s) low high r ys.0 ys.1) (λ q. q ≡ 4) (λ _ _. at < 2 ^ 62)
  unfolding read_srm_windows
  windows_longer = pairs_longer 4 at (scan windows) (λ _. windows_bounded) pairs_if_fit not_truncated_pairs
