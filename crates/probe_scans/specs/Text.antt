-- The text of an index entry (docs/REQUESTS.md), after what the answer held.
use Rattle.std.specs.Prelude.{ℕ, List, ◌++◌}
use Rattle.probe_text.specs.Answers.{bits_field, field, ok_number}
use Rattle.scan_index.specs.declared.ScanIndexEntry.{ScanIndexEntry}

abbrev pub with_entry : List ℕ → ScanIndexEntry → List ℕ
with_entry text e =
    ((((((((((text ++ ok_number e.index) ++ field e.scan_event) ++ field e.scan_segment) ++ field e.data_size)
    ++ bits_field 16 e.start_time) ++ bits_field 16 e.total_current) ++ bits_field 16 e.base_intensity) ++ bits_field 16 e.base_mz)
    ++ bits_field 16 e.low_mz) ++ bits_field 16 e.high_mz) ++ field e.offset
