-- The text of a scan from what its reader left.
use Rattle.std.specs.Prelude.{Ok, Err, Result}
use mathlib.Core.Path.{◌≡◌, refl, sym, ap, ◌∙◌}
use Prim.Native.Nat.{ℕ, ◌≤◌}
use native.Mathlib.Omega.{arith}
use mathlib.Core.List.{List, [], ◌∷◌}
use lib.Ieee.{Float}
use lib.ListN.{length, take, length-map}
use Rattle.refusal.specs.Outcome.{Outcome, ok}
use Rattle.refusal.specs.Number.{number, carried, outcome_of}
use Rattle.refusal.specs.declared.Refusal.{Refusal}
use Rattle.lists.specs.Written.{over}
use Rattle.lists.specs.Left.{firsts, seconds, LeftListsAndPairs}
use Rattle.lists.proofs.Left.{wrote, stayed}
use Rattle.pairs.specs.Pairs.{Pair}
use Rattle.scan_format.specs.declared.ScanDataFormat.{ScanDataFormat}
use Rattle.listing_lines.specs.Lines.{refused_line, refusal_line}
use Rattle.listing_pairs.proofs.Laws.{front, zip-columns}
use Rattle.tray_header.specs.declared.TrayHeader.{TrayHeader}
use Rattle.tray_scan.specs.Scan.{WrittenScan, format_in, scan_at}
use Rattle.tray_scan.specs.declared.Scan.{Scan}
use Rattle.tray_scan.proofs.Consistent.{consistent}
use Rattle.listing_tray.specs.Listing.{scan_text}
use Rattle.listing_tray.specs.Internal.{lines_of}

-- a refusal's line
pub refusal_is : (k : ℕ) (r : Refusal) → refusal_line k r ≡ refused_line k (number r) (carried r)
unfolding refusal_line
refusal_is k r = refl

-- a scan's pairs give its text
pub record HasText (format : ScanDataFormat) (text : List ℕ) (k : ℕ) (mz intensity : List Float) (v : Scan) : Type 0 where
  pub in_mz : v.pairs ≤ length mz
  pub in_intensity : v.pairs ≤ length intensity
  pub lines : lines_of format k v.event.coefficients (take v.pairs mz) (take v.pairs intensity) ≡ text

module _ (h : TrayHeader) (k at : ℕ) (s : List ℕ) (x : Result Scan Refusal) (a b c d : List ℕ) (ys : List (List ℕ)) (m i : List Float) {m' i' : List Float}
    (e : LeftListsAndPairs (λ n. scan_at n h k at s) (a ∷ b ∷ c ∷ d ∷ []) m i (outcome_of x) ys m' i') where
  abbrev scan : Outcome WrittenScan
  scan = scan_at (length a ∷ length b ∷ length c ∷ length d ∷ length m ∷ length i ∷ []) h k at s

  abbrev text : List ℕ
  text = scan_text (format_in h) k scan

  pub refused_text : (r : Refusal) → x ≡ Err r → refusal_line k r ≡ text
  refused_text r is = refusal_is k r ∙ ap (scan_text (format_in h) k) (stayed (rw (ap outcome_of is) at e)).0

  has_text_as : (v : Scan) (w : WrittenScan) → ok w ≡ scan → v ≡ w.0 → m' ≡ over (firsts w.2) m → i' ≡ over (seconds w.2) i → HasText (format_in h) text k m' i' v
  has_text_as v w is answered wm wi =
      let t = consistent (length a) (length b) (length c) (length d) (length m) (length i) h k at s is in
      let cm : length (firsts w.2) ≡ length w.2 = length-map w.2 (λ (z : Pair). z.0) in
      let ci : length (seconds w.2) ≡ length w.2 = length-map w.2 (λ (z : Pair). z.1) in
      let n : v.pairs ≡ length w.2 = ap (λ (z : Scan). z.pairs) answered ∙ t.count in
      let fm = front (firsts w.2) m (n ∙ sym cm) (omega (arith, t.in_mz, cm)) wm in
      let fi = front (seconds w.2) i (n ∙ sym ci) (omega (arith, t.in_intensity, ci)) wi in
      record { in_mz = fm.0; in_intensity = fi.0; lines = rw (fm.1, fi.1, answered, zip-columns w.2, ← is) }

  pub has_text : (v : Scan) → x ≡ Ok v → HasText (format_in h) text k m' i' v
  has_text v is =
      let w = wrote (rw (ap outcome_of is) at e) in
      has_text_as v w.value w.is w.answered (ap (λ (z : List (List ℕ) × List Float × List Float). z.1) w.written) (ap (λ (z : List (List ℕ) × List Float × List Float). z.2) w.written)
