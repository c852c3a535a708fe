-- The listing of a tray (document 01, "Tray"; document 02, L1), as the bytes that the program prints.
use Rattle.std.specs.Prelude.{ℕ, zero, suc, cond, List, [], ◌∷◌, ◌++◌, ltb, length}
use Rattle.refusal.specs.Outcome.{Outcome, ok, refused}
use Rattle.lists.specs.Left.{firsts, seconds}
use Rattle.text.specs.Text.{ascii}
use Rattle.scan_format.specs.declared.ScanDataFormat.{ScanDataFormat}
use Rattle.listing_lines.specs.Lines.{line, refused_line, tray_line, scan_lines}
use Rattle.listing_pairs.specs.Listed.{listed_pairs}
use Rattle.tray_header.specs.Header.{read_tray_header}
use Rattle.tray_header.specs.declared.TrayHeader.{TrayHeader}
use Rattle.tray_scan.specs.Scan.{WrittenScan, format_in}
use Rattle.tray.specs.Scan.{read_scan}

-- what the program lends: no preamble is longer than 136 bytes
abbrev pub capacities : List ℕ
capacities = 136 ∷ 64 ∷ 64 ∷ 64 ∷ 2048 ∷ 2048 ∷ []

-- scan k, or its refusal. L1: its lines are made of the pairs that are listed; what is refused still goes by all of them
abbrev pub scan_text : ScanDataFormat → ℕ → Outcome WrittenScan → List ℕ
scan_text format k (ok v) = let ps = listed_pairs format v.2 in scan_lines k v.0.event.coefficients (firsts ps) (seconds ps)
scan_text format k (refused number carries) = refused_line k number carries

-- the first n scans
unfoldable pub scans_text : ScanDataFormat → ℕ → List ℕ → List ℕ
scans_text format zero tray = []
scans_text format (suc n) tray = scans_text format n tray ++ scan_text format n (read_scan 4096 6 capacities n tray)

-- the header, or its refusal
abbrev pub header_text : Outcome TrayHeader → List ℕ
header_text (ok h) = tray_line h.version h.scans
header_text (refused number carries) = refused_line 0 number carries

-- a header and what follows it: a refused one prints only its line
abbrev pub tray_text : (TrayHeader → List ℕ) → Outcome TrayHeader → List ℕ
tray_text scans (ok h) = header_text (ok h) ++ scans h
tray_text scans (refused number carries) = header_text (refused number carries)

-- the whole listing: a tray of more than 24,576 bytes prints only `L`
unfoldable pub listing : List ℕ → List ℕ
listing tray = cond (ltb 24576 (length tray)) (line (ascii "L" ∷ [])) (tray_text (λ h. scans_text (format_in h) h.scans tray) (read_tray_header tray))
