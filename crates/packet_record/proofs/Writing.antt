-- What is written of a packet by the places of its parts.
use mathlib.Core.Path.{◌≡◌, ap, ◌∙◌}
use Prim.Native.Nat.{ℕ, ◌+◌, ◌*◌, ◌-◌, ◌^◌, ◌≤◌, ◌<◌, min}
use mathlib.Core.Bool.{Bool, true, false}
use mathlib.Core.List.{List, [], ◌∷◌}
use lib.ListN.{length, length-map}
use borrow.Author.Tests.{le-leb}
use native.Mathlib.Omega.{arith}
use Rattle.refusal.specs.Outcome.{Outcome, ok, refused}
use Rattle.lists.specs.Written.{each, over, fitting}
use Rattle.lists.specs.Left.{after, Left, fits, lengths, over_all, LeftLists, firsts, seconds, columns, pairs_if_fit}
use Rattle.lists.proofs.Laws.{length-each, each_same, fitting_all}
use Rattle.lists.proofs.Left.{fits_true, lists_no_room, lists_written}
use Rattle.parser.specs.Parser.{word_at}
use Rattle.reader.proofs.Words.{le_shifted}
use Rattle.peaks.specs.Peaks.{row_peaks}
use Rattle.peaks.proofs.Columns.{length-peaks}
use Rattle.packet_peak_list.specs.PeakList.{item_size, row}
use Rattle.packet_record.specs.Packet.{contents_at, record_of, lists_of, packet_if_fits, node_bytes}
use Rattle.packet_record.specs.declared.PacketPlaces.{PacketPlaces}
use Rattle.packet_record.specs.declared.ScanDataPacket.{ScanDataPacket}

-- pairs in slices that hold them
pairs_whole : {A B : Type 0} (ps : List (A × B)) {xs xs' : List A} {ys ys' : List B} {t : Outcome ℕ} → length ps ≤ length xs → length ps ≤ length ys
    → Left length columns (pairs_if_fit (length xs) (length ys) ps) (xs, ys) t (xs', ys') → (xs' ≡ over (firsts ps) xs) × (ys' ≡ over (seconds ps) ys)
unfolding pairs_if_fit after
pairs_whole {A} {B} ps h k l =
    let e = rw (le-leb _ _ h, le-leb _ _ k) at l.stands in
    (ap (λ (p : List A × List B). p.0) e, ap (λ (p : List A × List B). p.1) e)

module _ (v : PacketPlaces) (s m a d q : List ℕ) where
  long_peaks : length (contents_at s v).peaks ≡ v.list.count
  long_peaks = length-peaks v.list.wide (item_size v.list.wide) s v.list.at v.list.count

  abbrev room_for : Bool
  room_for = fits (lengths (lists_of (contents_at s v))) (lengths (m ∷ a ∷ d ∷ q ∷ []))

  -- the four tests
  pub tested : {test : Bool} → test ≡ fits (v.list.count ∷ v.list.count ∷ v.labels.descriptors ∷ v.labels.resolutions ∷ []) (lengths (m ∷ a ∷ d ∷ q ∷ [])) → test ≡ room_for
  tested e =
      let mz = length-map (contents_at s v).peaks (λ p. p.0) ∙ long_peaks in
      let abundance = length-map (contents_at s v).peaks (λ p. p.1) ∙ long_peaks in
      let ds = length-each (λ i. word_at s (v.labels.descriptors_at + i * 4) 4) v.labels.descriptors in
      let rs = length-each (λ i. word_at s (v.labels.unknown_at + 4 + i * 4) 4) v.labels.resolutions in
      e ∙ rw (mz, abundance, ds, rs)

  pub packet_refused : room_for ≡ false → LeftLists (λ c. packet_if_fits c v (contents_at s v) []) (m ∷ a ∷ d ∷ q ∷ []) (refused 8 []) (m ∷ a ∷ d ∷ q ∷ [])
  unfolding packet_if_fits
  packet_refused h = lists_no_room _ (lists_of (contents_at s v)) (m ∷ a ∷ d ∷ q ∷ []) h

  -- where the slices hold them, all lists are written
  module _ (fit : room_for ≡ true) where
    pub all_written : {place : ℕ} {t : Outcome ℕ} {m' a' d' q' : List ℕ} → length s < 2 ^ 64 → place ≡ min (v.labels.unknown_at + 4) (2 ^ 64 - 1)
        → Left length columns (pairs_if_fit (length m) (length a) (row_peaks (row v.list) s)) (m, a) t (m', a')
        → d' ≡ fitting (contents_at s v).labels.descriptors d → q' ≡ fitting (each (λ i. word_at s (place + i * 4) 4) v.labels.resolutions) q
        → (m' ∷ a' ∷ d' ∷ q' ∷ []) ≡ over_all (lists_of (contents_at s v)) (m ∷ a ∷ d ∷ q ∷ [])
    all_written {place = place} size there l hd hq =
        let k = contents_at s v in
        let w = fits_true (length (firsts k.peaks) ∷ length (seconds k.peaks) ∷ length k.labels.descriptors ∷ length k.labels.resolutions ∷ []) (length m ∷ length a ∷ length d ∷ length q ∷ []) fit in
        let ps = length-map k.peaks (λ p. p.0) in
        let qs = length-map k.peaks (λ p. p.1) in
        let peaks = pairs_whole k.peaks (omega (arith, w.0)) (omega (arith, w.1.0)) l in
        let word : ℕ → ℕ → ℕ = λ p i. word_at s (p + i * 4) 4 in
        let words : each (word place) v.labels.resolutions ≡ each (word (v.labels.unknown_at + 4)) v.labels.resolutions =
        each_same _ _ v.labels.resolutions (λ i. rw there (le_shifted s (v.labels.unknown_at + 4) (i * 4) 4 size)) in
        rw (peaks.0, peaks.1, hd ∙ fitting_all _ d w.1.1.0, hq ∙ ap (λ ws. fitting ws q) words ∙ fitting_all _ q w.1.1.1.0)

    -- the nodes at the place that the record says are those at the labels' place
    pub packet_written : {r : ScanDataPacket} {ys : List (List ℕ)} → r ≡ record_of v → ys ≡ over_all (lists_of (contents_at s v)) (m ∷ a ∷ d ∷ q ∷ [])
        → LeftLists (λ c. packet_if_fits c v (contents_at s v) []) (m ∷ a ∷ d ∷ q ∷ []) (ok (r, node_bytes s r)) ys
    unfolding packet_if_fits record_of
    packet_written e w = lists_written _ (lists_of (contents_at s v)) (m ∷ a ∷ d ∷ q ∷ []) fit (ap (λ (p : ScanDataPacket). (p, node_bytes s p)) e) w
