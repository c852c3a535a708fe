-- What no public promise cites: the lines that a private function writes; and what the listing program does, which reads the header
-- once and goes from event to event over the run. proofs/Listing.antt says that it is the listing.
use Rattle.std.specs.Prelude.{ℕ, zero, suc, cond, ltb, Float, length, drop}
use mathlib.Core.List.{List, [], ◌∷◌, ◌++◌, zip}
use Rattle.lists.specs.Left.{firsts, seconds}
use Rattle.text.specs.Text.{ascii}
use Rattle.scan_format.specs.declared.ScanDataFormat.{ScanDataFormat}
use Rattle.listing_lines.specs.Lines.{line, scan_lines}
use Rattle.listing_pairs.specs.Listed.{listed_pairs}
use Rattle.tray_header.specs.Header.{read_tray_header}
use Rattle.tray_header.specs.declared.TrayHeader.{TrayHeader}
use Rattle.tray_scan.specs.Scan.{format_in, scan_at, end_in, place_or_end}
use Rattle.listing_tray.specs.Listing.{capacities, scan_text, tray_text}

-- a scan's lines, by the pairs that stand in two slices
abbrev pub lines_of : ScanDataFormat → ℕ → ℕ → List Float → List Float → List ℕ
lines_of format k coefficients mz intensity = let ps = listed_pairs format (zip mz intensity) in scan_lines k coefficients (firsts ps) (seconds ps)

-- where event k is read: after event k - 1
unfoldable pub walked_place : TrayHeader → ℕ → List ℕ → ℕ
walked_place h zero run = h.events
walked_place h (suc k) run = place_or_end (end_in h (walked_place h k run) run)

-- the first n scans
unfoldable pub walked_scans : TrayHeader → ℕ → List ℕ → List ℕ
walked_scans h zero run = []
walked_scans h (suc n) run = walked_scans h n run ++ scan_text (format_in h) n (scan_at capacities h n (walked_place h n run) run)

unfoldable pub walked : List ℕ → List ℕ
walked tray = cond (ltb 24576 (length tray)) (line (ascii "L" ∷ [])) (tray_text (λ h. walked_scans h h.scans (drop 32 tray)) (read_tray_header tray))
