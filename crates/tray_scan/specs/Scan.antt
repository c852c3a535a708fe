-- Scan k of a run by its tray's header (document 01, "Tray"): entry k, event k and the data, and what is written of them.
use Rattle.std.specs.Prelude.{ℕ, ◌*◌, ◌-◌, ◌^◌, List, eqb, length}
use Rattle.refusal.specs.Outcome.{Outcome, ok, refused, and_then}
use Rattle.lists.specs.Left.{lists_and_pairs_if_fit}
use Rattle.parser.specs.Parser.{Parser, ◌>>◌, skip}
use Rattle.parser.specs.Call.{Call, answer, part, outcome}
use Rattle.scan_format.specs.Format.{format_of}
use Rattle.scan_format.specs.declared.ScanDataFormat.{ScanDataFormat}
use Rattle.scan_index.specs.Entry.{entry, entry_size}
use Rattle.scan_index.specs.declared.ScanIndexEntry.{ScanIndexEntry}
use Rattle.event_record.specs.Event.{Event, describe, event_lists}
use Rattle.events.specs.Event.{event, event_end}
use Rattle.pairs.specs.Pairs.{Pair}
use Rattle.tray_header.specs.declared.TrayHeader.{TrayHeader}
use Rattle.tray_data.specs.Data.{Content, of_finding, data_start, scan_data, pairs}
use Rattle.tray_scan.specs.declared.Scan.{Scan}

-- the header's format; entry k of the index, which those before it precede; and an event
abbrev pub format_in : TrayHeader → ScanDataFormat
format_in h = format_of h.version (eqb h.flat 1)

unfoldable pub entry_in : TrayHeader → ℕ → Parser ScanIndexEntry
entry_in h k = skip (k * entry_size h.version) >> entry h.version

abbrev pub tray_event : TrayHeader → Parser Event
tray_event h = event h.version h.primary h.dependent

-- a scan as it was read, and the place after its event
pub record ScanParts : Type 0 where
  pub entry : ScanIndexEntry
  pub event : Event
  pub next : ℕ
  pub content : Content

-- scan k: the index is part 2; the events, which this parser reads at a place, are part 3; and the data of the entry are part 4
unfoldable pub scan_parts : TrayHeader → ℕ → ℕ → Parser Event → Call ScanParts
scan_parts h k place events =
    part 2 h.index (entry_in h k) λ entry _.
    part 3 place events λ e next.
    let at = data_start h.«data» entry.offset in
    part 4 at (scan_data (format_in h) at entry.offset entry.data_size) λ found _.
    answer (of_finding (λ content. ok (record { entry = entry; event = e; next = next; content = content })) found)

-- the answer's record, and what is written: the event's lists, and the pairs
abbrev pub WrittenScan : Type 0
WrittenScan = Scan × List (List ℕ) × List Pair

-- those of a scan, the pairs by its event's coefficients, or refusal 8, where slices of these capacities are lent
unfoldable pub scan_if_fits : List ℕ → ScanParts → Outcome WrittenScan
scan_if_fits capacities p =
    let ps = pairs p.event.coefficients p.content in
    lists_and_pairs_if_fit capacities (record { entry = p.entry; event = describe p.event; next = p.next; pairs = length ps }) (event_lists p.event) ps

-- what `scan_at` answers, where event k stands at a place
unfoldable pub scan_at : List ℕ → TrayHeader → ℕ → ℕ → List ℕ → Outcome WrittenScan
scan_at capacities h k at run = and_then (outcome (scan_parts h k at (tray_event h)) run) (scan_if_fits capacities)

-- the place after that event; where it was not found, the last of all, at which no run has an event
abbrev pub end_in : TrayHeader → ℕ → List ℕ → Outcome ℕ
end_in h at run = event_end h.version h.primary h.dependent at run

abbrev pub place_or_end : Outcome ℕ → ℕ
place_or_end (ok at) = at
place_or_end (refused number carries) = 2 ^ 64 - 1
