-- A scan by its places in the run. No public promise cites it.
use Rattle.std.specs.Prelude.{◌≡◌, ℕ, ◌+◌, ◌*◌, ◌-◌, ◌^◌, List, length, Ok, Err, Result}
use Rattle.refusal.specs.Outcome.{Outcome, ok, on_ok, and_then}
use Rattle.refusal.specs.Number.{outcome_of}
use Rattle.refusal.specs.declared.Refusal.{Refusal}
use Rattle.parser.specs.Call.{Call, answer, part, outcome}
use Rattle.scan_index.specs.Entry.{entry_size, read_entry}
use Rattle.scan_index.specs.declared.ScanIndexEntry.{ScanIndexEntry}
use Rattle.event_record.specs.Event.{Event}
use Rattle.event_record.specs.Places.{event_at}
use Rattle.event_record.specs.declared.Places.{Places}
use Rattle.tray_header.specs.declared.TrayHeader.{TrayHeader}
use Rattle.tray_data.specs.Data.{of_finding, data_start, scan_data, pairs, content_at, count_of}
use Rattle.tray_data.specs.declared.ScanData.{ScanData}
use Rattle.tray_scan.specs.Scan.{format_in, ScanParts}
use Rattle.tray_scan.specs.declared.ScanPlaces.{ScanPlaces}

-- entry k of the index, as it is read
abbrev pub entry_of : TrayHeader → ℕ → List ℕ → Outcome ScanIndexEntry
entry_of h k run = read_entry h.version (h.index + k * entry_size h.version) run

-- what follows the event of a scan
unfoldable pub with_data : TrayHeader → ScanIndexEntry → Event → ℕ → Call ScanParts
with_data h entry e next =
    let at = data_start h.«data» entry.offset in
    part 4 at (scan_data (format_in h) at entry.offset entry.data_size) λ found _.
    answer (of_finding (λ content. ok (record { entry = entry; event = e; next = next; content = content })) found)

-- entry k, then the event, which was sought before, and then the data
unfoldable pub in_turn : TrayHeader → ℕ → Outcome (Event × ℕ) → List ℕ → Outcome ScanParts
in_turn h k event run = and_then (entry_of h k run) (λ entry. and_then event (λ v. outcome (with_data h entry v.0 v.1) run))

-- what stands at these places
abbrev pub parts_at : List ℕ → ScanPlaces → ScanParts
parts_at run p = record { entry = p.entry; event = event_at run p.event; next = p.event.next; content = content_at p.«data» run }

-- data give as many pairs as they count, by any coefficients: so it is with all that were found
abbrev pub CountHolds : List ℕ → ScanData → Type 0
CountHolds run d = (coefficients : List ℕ) → length (pairs coefficients (content_at d run)) ≡ count_of d

abbrev pub CountHoldsIn : List ℕ → Result ScanPlaces Refusal → Type 0
CountHoldsIn run (Ok p) = CountHolds run p.«data»
CountHoldsIn run (Err r) = Unit {0}

-- an event that was sought, and the place after it
abbrev pub event_found : List ℕ → Result Places Refusal → Outcome (Event × ℕ)
event_found run x = on_ok (λ (p : Places). (event_at run p, p.next)) (outcome_of x)

abbrev pub next_place : Result Places Refusal → ℕ
next_place (Ok p) = p.next
next_place (Err r) = 2 ^ 64 - 1
