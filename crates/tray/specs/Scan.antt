-- A tray's calls (document 01, "Tray" and "Turned down"): the header decides, then the scan's number, and then the run.
use Rattle.std.specs.Prelude.{ℕ, cond, List, [], ltb, drop}
use Rattle.refusal.specs.Outcome.{Outcome, ok, refused, and_then}
use Rattle.parser.specs.Parser.{◌>>◌, repeat}
use Rattle.parser.specs.Call.{outcome}
use Rattle.events.specs.Event.{event_place}
use Rattle.tray_header.specs.Header.{read_header}
use Rattle.tray_header.specs.declared.TrayHeader.{TrayHeader}
use Rattle.tray_scan.specs.Scan.{tray_event, scan_parts, WrittenScan, scan_if_fits, end_in}

-- what follows of a header, over the run, which starts at byte 32
abbrev pub over_run : {A : Type 0} → Outcome TrayHeader → (TrayHeader → List ℕ → Outcome A) → List ℕ → Outcome A
over_run header call tray = and_then header (λ h. call h (drop 32 tray))

-- of a tray with at most `limit` scans, where more are a refusal of this number
module _ (limit number : ℕ) where
  -- the header of a tray that has a scan k, or refusal 7
  unfoldable pub header_with : ℕ → List ℕ → Outcome TrayHeader
  header_with k tray = and_then (read_header limit number tray) (λ h. cond (ltb k h.scans) (ok h) (refused 7 []))

  -- what `read_scan` answers: the events 0 to k stand where the header says
  unfoldable pub read_scan : List ℕ → ℕ → List ℕ → Outcome WrittenScan
  read_scan capacities k tray =
      and_then (over_run (header_with k tray) (λ h. outcome (scan_parts h k h.events (repeat k (tray_event h) >> tray_event h))) tray) (scan_if_fits capacities)

  -- `read_scan_from`: event k stands at a place of the run that the caller gives
  unfoldable pub read_scan_from : List ℕ → ℕ → ℕ → List ℕ → Outcome WrittenScan
  read_scan_from capacities k at tray = and_then (over_run (header_with k tray) (λ h. outcome (scan_parts h k at (tray_event h))) tray) (scan_if_fits capacities)

  -- `event_of` and `next_event`
  unfoldable pub event_of : ℕ → List ℕ → Outcome ℕ
  event_of k tray = over_run (header_with k tray) (λ h. event_place h.version h.primary h.dependent h.events k) tray

  unfoldable pub next_event : ℕ → List ℕ → Outcome ℕ
  next_event at tray = over_run (read_header limit number tray) (λ h. end_in h at) tray
