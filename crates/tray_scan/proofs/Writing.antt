-- A scan is written where all six slices hold it.
use mathlib.Core.Path.{◌≡◌, refl, ap, sym, ◌∙◌}
use Prim.Native.Nat.{ℕ, ◌≤◌}
use native.Mathlib.Omega.{arith}
use mathlib.Core.Bool.{Bool, true, false}
use mathlib.Core.List.{List, [], ◌∷◌}
use lib.Ieee.{Float}
use lib.ListN.{length, take, drop}
use lib.Seq.{take-append_seam}
use Rattle.refusal.specs.Outcome.{Outcome, ok, refused}
use Rattle.lists.specs.Left.{Left, fits, lengths, columns, pairs_if_fit, LeftLists, LeftListsAndPairs}
use Rattle.lists.specs.Written.{over}
use Rattle.lists.proofs.Laws.{length_over}
use Rattle.lists.proofs.Left.{fits_true, no_pairs_room, no_lists_room, lists_wrote, lists_and_pairs_written}
use Rattle.event_record.specs.Event.{Event, describe, answer_of, event_lists, event_if_fits}
use Rattle.event_record.specs.declared.EventAndNext.{EventAndNext}
use Rattle.pairs.specs.Pairs.{Pair}
use Rattle.tray_data.specs.Data.{pairs, content_at, count_of}
use Rattle.tray_scan.specs.Scan.{scan_if_fits}
use Rattle.tray_scan.specs.Internal.{parts_at, CountHolds}
use Rattle.tray_scan.specs.declared.ScanPlaces.{ScanPlaces}

-- six lent slices, and a scan whose data count n pairs
module _ (s : List ℕ) (p : ScanPlaces) (counted : CountHolds s p.«data») {n : ℕ} (hn : n ≡ count_of p.«data») (a b c d : List ℕ) (m i : List Float) where
  abbrev e : Event
  e = (parts_at s p).event

  abbrev ps : List Pair
  ps = pairs e.coefficients (content_at p.«data» s)

  abbrev lent : List (List ℕ)
  lent = a ∷ b ∷ c ∷ d ∷ []

  abbrev PairsFit : Bool → Type 0
  PairsFit room = fits (n ∷ n ∷ []) (length m ∷ length i ∷ []) ≡ room

  size : length ps ≡ n
  size = counted e.coefficients ∙ sym hn

  pub no_pairs : PairsFit false → LeftListsAndPairs (λ c. scan_if_fits c (parts_at s p)) lent m i (refused 8 []) lent m i
  unfolding scan_if_fits
  no_pairs h = no_pairs_room _ (answer_of e p.event.next) (event_lists e) lent refl ps m i (rw size h)

  module _ (h : PairsFit true) {a' b' c' d' : List ℕ} where
    pub no_lists : {k : ℕ} {carries : List ℕ} → LeftLists (λ c. event_if_fits c e p.event.next) lent (refused k carries) (a' ∷ b' ∷ c' ∷ d' ∷ [])
        → LeftListsAndPairs (λ c. scan_if_fits c (parts_at s p)) lent m i (refused k carries) (a' ∷ b' ∷ c' ∷ d' ∷ []) m i
    unfolding scan_if_fits event_if_fits
    no_lists l = no_lists_room _ (answer_of e p.event.next) (event_lists e) lent refl ps m i (rw size h) l

    module _ {v : EventAndNext} (l : LeftLists (λ c. event_if_fits c e p.event.next) lent (ok v) (a' ∷ b' ∷ c' ∷ d' ∷ [])) where
      wrote : (fits (lengths (event_lists e)) (lengths lent) ≡ true) × (v ≡ answer_of e p.event.next) × (d' ≡ over e.coefficients d)
      unfolding event_if_fits
      wrote =
          let w = lists_wrote (answer_of e p.event.next) (answer_of e p.event.next) (event_lists e) lent refl ps m i (rw size h) l in
          (w.0, w.1, cc)

      count_is : v.event.coefficients ≡ length e.coefficients
      unfolding describe
      count_is = ap (λ (x : EventAndNext). x.event.coefficients) wrote.1

      -- the coefficients stand at the front of their slice
      pub within : v.event.coefficients ≤ length d'
      within =
          let fit = (fits_true (lengths (event_lists e)) (lengths lent) wrote.0).1.1.1.0 in
          omega (arith, count_is, fit, ap length wrote.2, length_over e.coefficients d fit)

      front : take v.event.coefficients d' ≡ e.coefficients
      unfolding over
      front = rw (count_is, wrote.2) (take-append_seam e.coefficients (drop (length e.coefficients) d))

      pub all_written : {t : Outcome ℕ} {m' i' : List Float}
          → Left length columns (pairs_if_fit (length m) (length i) (pairs (take v.event.coefficients d') (content_at p.«data» s))) (m, i) t (m', i')
          → LeftListsAndPairs (λ c. scan_if_fits c (parts_at s p)) lent m i (ok (record { entry = p.entry; event = v.event; next = v.next; pairs = n })) (a' ∷ b' ∷ c' ∷ d' ∷ []) m' i'
      unfolding scan_if_fits event_if_fits
      all_written w =
          lists_and_pairs_written _ (answer_of e p.event.next) (event_lists e) lent refl ps m i (rw size h) l (rw (wrote.1, size)) (rw front at w)
