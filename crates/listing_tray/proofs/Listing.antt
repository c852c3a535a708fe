-- The listing as a whole: what the program prints, going from event to event, is the listing's text, and its buffer holds
-- every text.
use mathlib.Core.Path.{◌≡◌, refl, sym, ap, ◌∙◌}
use Prim.Native.Nat.{ℕ, zero, suc, ◌+◌, ◌-◌, ◌^◌, ◌≤◌, ◌<◌, min}
use native.Mathlib.Omega.{arith}
use mathlib.Core.Bool.{Bool, true, false, cond}
use mathlib.Core.List.{List, [], ◌∷◌, ◌++◌}
use lib.Dec.{ltb}
use lib.ListN.{length, drop, length-map, length-drop}
use borrow.Author.Tests.{ltb-false}
use Rattle.refusal.specs.Outcome.{Outcome, ok, refused, and_then}
use Rattle.lists.specs.Left.{firsts, seconds}
use Rattle.text.specs.Text.{ascii}
use Rattle.events.proofs.Steps.{place_none, place_more, none_after}
use Rattle.pairs.specs.Pairs.{Pair}
use Rattle.listing_lines.specs.Lines.{line}
use Rattle.listing_lines.proofs.Room.{scan_room}
use Rattle.listing_pairs.specs.Listed.{listed_pairs}
use Rattle.listing_pairs.proofs.Keeping.{listed_length}
use Rattle.tray_header.specs.Header.{read_tray_header}
use Rattle.tray_header.specs.declared.TrayHeader.{TrayHeader}
use Rattle.tray_scan.specs.Scan.{WrittenScan, format_in, scan_at, end_in, place_or_end}
use Rattle.tray_scan.proofs.Consistent.{consistent}
use Rattle.tray.proofs.Headers.{has_scan}
use Rattle.tray.proofs.Walk.{place_in, scan_in}
use Rattle.listing_tray.specs.Listing.{capacities, scan_text, header_text, scans_text, tray_text, listing}
use Rattle.listing_tray.specs.Internal.{walked_place, walked_scans, walked}

-- ---- the places
module _ (h : TrayHeader) (run : List ℕ) (few : length run < 2 ^ 63) where
  one_more : (o : Outcome ℕ) → place_or_end (end_in h (place_or_end o) run) ≡ place_or_end (and_then o (λ at. end_in h at run))
  one_more (ok at) = refl
  one_more (refused n carries) = ap place_or_end (none_after h.version h.primary h.dependent run (2 ^ 64 - 1) (omega arith))

  pub place_is : (k : ℕ) → walked_place h k run ≡ place_or_end (place_in h k run)
  unfolding walked_place
  place_is zero = ap place_or_end (sym (place_none h.version h.primary h.dependent run h.events))
  place_is (suc k) =
      ap (λ at. place_or_end (end_in h at run)) (place_is k)
      ∙ one_more (place_in h k run)
      ∙ ap place_or_end (sym (place_more h.version h.primary h.dependent run h.events k))

-- ---- the whole listing
module _ (s : List ℕ) (size : length s < 2 ^ 63) where
  scans_are : {h : TrayHeader} → ok h ≡ read_tray_header s → (n : ℕ) → n ≤ h.scans → scans_text (format_in h) n s ≡ walked_scans h n (drop 32 s)
  unfolding scans_text walked_scans
  scans_are e zero l = refl
  scans_are {h} e (suc n) l =
      let short : length (drop 32 s) < 2 ^ 63 = simp length-drop (omega arith) in
      rw (scans_are e n (omega arith), scan_in 4096 6 s capacities n (has_scan 4096 6 s n e (omega arith)) size (place_is h (drop 32 s) short n))

  text_is : (o : Outcome TrayHeader) → o ≡ read_tray_header s → tray_text (λ h. scans_text (format_in h) h.scans s) o ≡ tray_text (λ h. walked_scans h h.scans (drop 32 s)) o
  text_is (ok h) e = ap (λ l. header_text (ok h) ++ l) (scans_are e h.scans (omega arith))
  text_is (refused n carries) e = refl

pub listing_walked : (s : List ℕ) → listing s ≡ walked s
unfolding listing walked
listing_walked s = go (ltb 24576 (length s)) refl
  where
    go : (long : Bool) → ltb 24576 (length s) ≡ long
        → cond long (line (ascii "L" ∷ [])) (tray_text (λ h. scans_text (format_in h) h.scans s) (read_tray_header s))
        ≡ cond long (line (ascii "L" ∷ [])) (tray_text (λ h. walked_scans h h.scans (drop 32 s)) (read_tray_header s))
    go true b = refl
    go false b = let few = ltb-false 24576 (length s) b in text_is s (omega arith) (read_tray_header s) refl

-- the lines of a scan take at most 55,360 bytes, and those of a refusal 64 (listing_lines/proofs/Room.antt)
pub scan_fits : (h : TrayHeader) (k at : ℕ) (s : List ℕ) → k < 2 ^ 32 → {v : WrittenScan} → ok v ≡ scan_at capacities h k at s → length (scan_text (format_in h) k (ok v)) ≤ 55360
scan_fits h k at s small {v} e =
    let w = consistent 136 64 64 64 2048 2048 h k at s e in
    let ps = listed_pairs (format_in h) v.2 in
    let some = listed_length (format_in h) v.2 in
    let m = length-map ps (λ (x : Pair). x.0) in
    let i = length-map ps (λ (x : Pair). x.1) in
    let few : min (length (firsts ps)) (length (seconds ps)) < 2 ^ 64 = omega (arith, m, i, some, w.in_mz) in
    let room = scan_room k v.0.event.coefficients (firsts ps) (seconds ps) small (omega (arith, w.in_coefficients)) few in
    omega (arith, room, m, some, w.in_mz)
