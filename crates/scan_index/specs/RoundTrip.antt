-- What the theorems on writing an entry and reading it ask.
use Rattle.std.specs.Prelude.{◌≡◌, ℕ, ◌+◌, ◌^◌, ◌≤◌, ◌<◌, List}
use Rattle.parser.specs.Parser.{word_at}
use Rattle.scan_index.specs.declared.ScanIndexEntry.{ScanIndexEntry}

-- each field is one of its type, as in every entry that code can hold
pub record Typed (e : ScanIndexEntry) : Type 0 where
  pub index : e.index < 2 ^ 32
  pub event : e.scan_event < 2 ^ 16
  pub segment : e.scan_segment < 2 ^ 16
  pub size : e.data_size < 2 ^ 32
  pub time : e.start_time < 2 ^ 64
  pub current : e.total_current < 2 ^ 64
  pub intensity : e.base_intensity < 2 ^ 64
  pub base : e.base_mz < 2 ^ 64
  pub low : e.low_mz < 2 ^ 64
  pub high : e.high_mz < 2 ^ 64
  pub offset : e.offset < 2 ^ 64

-- the skipped words of the entry at a place, and from version 64 its offset_32, are zero
pub record SkippedZero (version : ℕ) (run : List ℕ) (at : ℕ) : Type 0 where
  pub skipped : word_at run (at + 12) 8 ≡ 0
  pub offset32 : 64 ≤ version → word_at run at 4 ≡ 0
  pub last : 66 ≤ version → word_at run (at + 80) 8 ≡ 0
