-- What a scan answers, by its count of channels.
use mathlib.Core.Path.{◌≡◌, refl, ap, sym, ◌∙◌}
use Prim.Native.Nat.{ℕ, ◌+◌, ◌*◌}
use mathlib.Core.Bool.{false}
use mathlib.Core.List.{List, []}
use lib.ListN.{length}
use Rattle.refusal.specs.Outcome.{Outcome, ok, refused, on_ok, and_then}
use Rattle.refusal.proofs.Outcomes.{made_of, refused_of}
use Rattle.lists.specs.Left.{pairs_if_fit}
use Rattle.lists.proofs.Laws.{each_none}
use Rattle.parser.specs.Parser.{saturating_add}
use Rattle.parser.specs.Call.{outcome, single}
use Rattle.peaks.specs.Peaks.{Peak, peaks_at}
use Rattle.peaks.proofs.Columns.{length-peaks}
use Rattle.srm_scan.specs.Scan.{scan, peaks, read_srm_peaks, find_srm_peaks, windows, read_srm_windows}
use Rattle.srm_scan.specs.Internal.{channels, windows_at}
use Rattle.srm_scan.proofs.Tables.{peaks_sized, windows_sized, peaks_are, windows_are}
use Rattle.srm_scan.proofs.Counting.{by_channels}

module _ (place offset : ℕ) (s : List ℕ) (at : ℕ) (is : at ≡ saturating_add place offset) where
  -- the peaks of n channels, the place of the first, and n
  abbrev list : ℕ → List Peak
  list n = peaks_at false 12 s (at + 36 + n * 8) n

  abbrev placed : ℕ → ℕ × ℕ
  placed n = (at + 36 + n * 8, n)

  list_none : list 0 ≡ []
  unfolding peaks_at
  list_none = sym (each_none _)

  then_by : {A : Type 0} (follow : List Peak → Outcome A)
      → outcome (single 4 (saturating_add place offset) (scan peaks) (λ ps _. follow ps)) s ≡ and_then (channels 20 s at) (λ n. follow (list n))
  then_by follow = rw (← is) (by_channels 20 peaks peaks_sized s at list (peaks_are s at) list_none follow)

  found_by : find_srm_peaks place offset s ≡ on_ok placed (channels 20 s at)
  unfolding find_srm_peaks
  found_by =
      rw (← is) (by_channels 20 peaks peaks_sized s at list (peaks_are s at) list_none (λ ps. ok (at + 36 + length ps * 8, length ps)))
      ∙ go (channels 20 s at)
    where
      go : (o : Outcome ℕ) → and_then o (λ n. ok (at + 36 + length (list n) * 8, length (list n))) ≡ on_ok placed o
      go (ok n) = rw (length-peaks false 12 s (at + 36 + n * 8) n)
      go (refused number carries) = refl

  pub found : (n : ℕ) → ok n ≡ channels 20 s at → ok (at + 36 + n * 8, n) ≡ find_srm_peaks place offset s
  found n e = rw (found_by, ← e)

  pub find_refused : {number : ℕ} {carries : List ℕ} → refused number carries ≡ channels 20 s at → refused number carries ≡ find_srm_peaks place offset s
  find_refused e = rw (found_by, ← e)

  -- the windows
  module _ (l h : ℕ) where
    windows_by : read_srm_windows l h place offset s ≡ and_then (channels 8 s at) (λ n. pairs_if_fit l h (windows_at s (at + 32) n))
    unfolding read_srm_windows windows_at
    windows_by = rw (← is) (by_channels 8 windows windows_sized s at (windows_at s (at + 32)) (windows_are s at) (sym (each_none _)) _)

    pub windows_there : (n : ℕ) → ok n ≡ channels 8 s at → pairs_if_fit l h (windows_at s (at + 32) n) ≡ read_srm_windows l h place offset s
    windows_there n e = rw (windows_by, ← e)

    pub no_windows : {number : ℕ} {carries : List ℕ} → refused number carries ≡ channels 8 s at → refused number carries ≡ read_srm_windows l h place offset s
    no_windows e = rw (windows_by, ← e)

-- whatever follows of peaks that were found, or of a refusal
module _ {A : Type 0} (follow : List Peak → Outcome A) (place offset : ℕ) (s : List ℕ) where
  abbrev at : ℕ
  at = saturating_add place offset

  pub then_found : (p n : ℕ) → ok (p, n) ≡ find_srm_peaks place offset s → follow (peaks_at false 12 s p n) ≡ outcome (single 4 (saturating_add place offset) (scan peaks) (λ ps _. follow ps)) s
  then_found p n e =
      let m = made_of (placed place offset s at refl) (channels 20 s at) (e ∙ found_by place offset s at refl) in
      by_count m.value p n m.is (ap (λ (z : ℕ × ℕ). z.0) m.made) (ap (λ (z : ℕ × ℕ). z.1) m.made)
    where
      by_count : (k p n : ℕ) → ok k ≡ channels 20 s at → p ≡ at + 36 + k * 8 → n ≡ k
          → follow (peaks_at false 12 s p n) ≡ outcome (single 4 (saturating_add place offset) (scan peaks) (λ ps _. follow ps)) s
      by_count k p n e here count = rw (then_by place offset s at refl follow, ← e, here, count)

  pub then_refused : {number : ℕ} {carries : List ℕ} → refused number carries ≡ find_srm_peaks place offset s → refused number carries ≡ outcome (single 4 (saturating_add place offset) (scan peaks) (λ ps _. follow ps)) s
  then_refused e =
      let r = refused_of (placed place offset s at refl) (channels 20 s at) (e ∙ found_by place offset s at refl) in
      rw (then_by place offset s at refl follow, ← r)

module _ (place offset : ℕ) (s : List ℕ) (m a : ℕ) where
  pub read_found : (p n : ℕ) → ok (p, n) ≡ find_srm_peaks place offset s → pairs_if_fit m a (peaks_at false 12 s p n) ≡ read_srm_peaks m a place offset s
  unfolding read_srm_peaks
  read_found = then_found (pairs_if_fit m a) place offset s

  pub read_refused : {number : ℕ} {carries : List ℕ} → refused number carries ≡ find_srm_peaks place offset s → refused number carries ≡ read_srm_peaks m a place offset s
  unfolding read_srm_peaks
  read_refused = then_refused (pairs_if_fit m a) place offset s
