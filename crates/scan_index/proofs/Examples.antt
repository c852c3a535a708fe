-- Writing an entry at the request's limits, by computation.
use mathlib.Core.Path.{◌≡◌, refl}
use Prim.Native.Nat.{ℕ, ◌-◌, ◌^◌}
use mathlib.Core.List.{[], ◌∷◌}
use lib.ListN.{length, take}
use Rattle.refusal.specs.Outcome.{ok, refused, on_ok}
use Rattle.layout.specs.Layout.{le_bytes}
use Rattle.scan_index.specs.Entry.{layout, write_entry}
use Rattle.scan_index.specs.declared.ScanIndexEntry.{ScanIndexEntry}

-- an entry whose time is a signaling NaN
abbrev entry_of : ℕ → ScanIndexEntry
entry_of offset =
    record {
      index = 7;
      scan_event = 2;
      scan_segment = 1;
      data_size = 4096;
      start_time = 0x7ff0_0000_0000_0001;
      total_current = 0;
      base_intensity = 0x8000_0000_0000_0000;
      base_mz = 3;
      low_mz = 4;
      high_mz = 5;
      offset = offset;
    }

-- 10 comes first, and is about the offset below version 64 only; then 8
pub refusals : (write_entry 63 (entry_of (2 ^ 32)) 0 ≡ refused 10 [])
    × (write_entry 63 (entry_of (2 ^ 32 - 1)) 71 ≡ refused 8 [])
    × (write_entry 64 (entry_of (2 ^ 64 - 1)) 79 ≡ refused 8 [])
    × (write_entry 66 (entry_of (2 ^ 64 - 1)) 87 ≡ refused 8 [])
unfolding write_entry
refusals = (refl, refl, refl, refl)

-- the bytes below version 64
pub bytes_63 : write_entry 63 (entry_of 0x0102_0304) 72
    ≡ ok (4 ∷ 3 ∷ 2 ∷ 1 ∷ 7 ∷ 0 ∷ 0 ∷ 0
    ∷ 2 ∷ 0 ∷ 1 ∷ 0 ∷ 0 ∷ 0 ∷ 0 ∷ 0
    ∷ 0 ∷ 0 ∷ 0 ∷ 0 ∷ 0 ∷ 16 ∷ 0 ∷ 0
    ∷ 1 ∷ 0 ∷ 0 ∷ 0 ∷ 0 ∷ 0 ∷ 240 ∷ 127
    ∷ 0 ∷ 0 ∷ 0 ∷ 0 ∷ 0 ∷ 0 ∷ 0 ∷ 0
    ∷ 0 ∷ 0 ∷ 0 ∷ 0 ∷ 0 ∷ 0 ∷ 0 ∷ 128
    ∷ 3 ∷ 0 ∷ 0 ∷ 0 ∷ 0 ∷ 0 ∷ 0 ∷ 0
    ∷ 4 ∷ 0 ∷ 0 ∷ 0 ∷ 0 ∷ 0 ∷ 0 ∷ 0
    ∷ 5 ∷ 0 ∷ 0 ∷ 0 ∷ 0 ∷ 0 ∷ 0 ∷ 0
    ∷ [])
unfolding write_entry layout le_bytes
bytes_63 = refl

-- from version 64 on offset_32 is zero, and the entry is longer
pub from_64 : (on_ok (take 4) (write_entry 64 (entry_of 0x0102_0304) 80) ≡ ok (0 ∷ 0 ∷ 0 ∷ 0 ∷ []))
    × (on_ok length (write_entry 65 (entry_of 1) 80) ≡ ok 80)
    × (on_ok length (write_entry 66 (entry_of 1) 88) ≡ ok 88)
unfolding write_entry layout le_bytes
from_64 = (refl, refl, refl)
