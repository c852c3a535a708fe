-- The two tables of a scan: their sizes, and their elements by their places.
use mathlib.Core.Path.{◌≡◌, ◌∙◌, subst}
use Prim.Native.Nat.{ℕ, ◌+◌, ◌*◌}
use native.Mathlib.Omega.{arith}
use mathlib.Core.Bool.{false}
use mathlib.Core.List.{List}
use Rattle.lists.proofs.Laws.{each_same}
use Rattle.parser.specs.Parser.{Parser, skip, ◌>>◌, counted}
use Rattle.parser.specs.Internal.{Sized, value}
use Rattle.parser.proofs.Fixed.{sized_raw, sized_bind, sized_counted, value_each}
use Rattle.peaks.specs.Peaks.{peak, peaks_at}
use Rattle.srm_scan.specs.Scan.{channel, peaks, window, windows}
use Rattle.srm_scan.specs.Internal.{windows_at}

channel_sized : Sized 12 channel
unfolding channel peak
channel_sized = λ _ _ _. tt

window_sized : Sized 8 window
unfolding window
window_sized = λ _ _. tt

pub peaks_sized : (n : ℕ) → Sized (n * 20) (peaks n)
unfolding peaks counted
peaks_sized n =
    let e : n * 8 + n * 12 ≡ n * 20 = omega arith in
    subst (λ (k : ℕ). Sized k (peaks n)) e
    (sized_bind (n * 8) (n * 12) (skip (n * 8)) (λ _. counted n 12 channel) (sized_raw (n * 8)) (λ _. sized_counted 12 channel channel_sized n))

pub windows_sized : (n : ℕ) → Sized (n * 8) (windows n)
unfolding windows counted
windows_sized n = sized_counted 8 window window_sized n

-- a table, and the bytes before it
pub skipped_sized : {A : Type 0} (size : ℕ) (table : ℕ → Parser (List A)) → ((n : ℕ) → Sized (n * size) (table n)) → (n : ℕ) → Sized (28 + n * size) (skip 28 >> table n)
skipped_sized size table sized n = sized_bind 28 (n * size) (skip 28) (λ _. table n) (λ _. tt) (λ _. sized n)

-- of a scan at a place, after its count of four bytes and the 28 that are passed over
module _ (s : List ℕ) (at n : ℕ) where
  pub peaks_are : value (peaks n) s (at + 4) 28 ≡ peaks_at false 12 s (at + 36 + n * 8) n
  unfolding peaks counted peaks_at channel peak
  peaks_are =
      let place : (i : ℕ) → at + 4 + (28 + n * 8 + i * 12 + 4) ≡ at + 36 + n * 8 + i * 12 = λ i. omega arith in
      let beyond : (i : ℕ) → at + 4 + (28 + n * 8 + i * 12 + 4 + 4) ≡ at + 36 + n * 8 + i * 12 + 4 = λ i. omega arith in
      value_each 12 channel channel_sized n s (at + 4) (28 + n * 8)
      ∙ each_same _ _ n (λ i. rw (place i, beyond i))

  pub windows_are : value (windows n) s (at + 4) 28 ≡ windows_at s (at + 32) n
  unfolding windows counted windows_at window
  windows_are =
      let place : (i : ℕ) → at + 4 + (28 + i * 8) ≡ at + 32 + i * 8 = λ i. omega arith in
      let beyond : (i : ℕ) → at + 4 + (28 + i * 8 + 4) ≡ at + 32 + i * 8 + 4 = λ i. omega arith in
      value_each 8 window window_sized n s (at + 4) 28
      ∙ each_same _ _ n (λ i. rw (place i, beyond i))
