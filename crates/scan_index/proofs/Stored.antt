-- What the stores of an entry's fields leave.
use mathlib.Core.Path.{◌≡◌, refl}
use Prim.Native.Nat.{ℕ, ◌%◌, ◌^◌, ◌≤◌, ◌<◌}
use native.Mathlib.Omega.{arith}
use mathlib.Core.Bool.{Bool, true, false}
use mathlib.Core.List.{List, ◌++◌, append_assoc, append-nil}
use lib.Dec.{leb}
use lib.ListN.{length, length-append}
use lib.Seq.{sets}
use borrow.Author.Tests.{le-leb, lt-leb, leb-true}
use Rattle.lists.proofs.Cases.{false_not_true}
use Rattle.layout.specs.Layout.{le_bytes, written}
use Rattle.layout.proofs.Numbers.{length-le_bytes, le_bytes-mod}
use Rattle.writer.proofs.Stores.{sets_append, sets_word}
use Rattle.scan_index.specs.Entry.{layout, entry_layout, entry_size}
use Rattle.scan_index.specs.declared.ScanIndexEntry.{ScanIndexEntry}
use Rattle.scan_index.proofs.Size.{size}

-- an entry takes as many bytes as `min_size_for_version` says
layout_bytes : (wide long : Bool) → (long ≡ true → wide ≡ true) → (e : ScanIndexEntry) → length (written (layout wide long) e) ≡ size wide long
unfolding layout size
layout_bytes true true h e = simp (length-append, length-le_bytes)
layout_bytes true false h e = simp (length-append, length-le_bytes)
layout_bytes false true h e = false_not_true (h refl)
layout_bytes false false h e = simp (length-append, length-le_bytes)

pub entry_bytes : (version : ℕ) (e : ScanIndexEntry) → length (written (entry_layout version) e) ≡ entry_size version
unfolding size
entry_bytes version e = layout_bytes (leb 64 version) (leb 66 version) (λ h. le-leb 64 version (omega (arith, leb-true 66 version h))) e

-- the entry with offset 0, whose first 72 bytes are those of every version from 64 on
abbrev pub front : ScanIndexEntry → ScanIndexEntry
front e =
    record {
      index = e.index;
      scan_event = e.scan_event;
      scan_segment = e.scan_segment;
      data_size = e.data_size;
      start_time = e.start_time;
      total_current = e.total_current;
      base_intensity = e.base_intensity;
      base_mz = e.base_mz;
      low_mz = e.low_mz;
      high_mz = e.high_mz;
      offset = 0;
    }

-- the fields of an entry below version 64, one after the other
pub stored_fields : (e : ScanIndexEntry) (l₀ : List ℕ) {l₁ l₂ l₃ l₄ l₅ l₆ l₇ l₈ l₉ l₁₀ l₁₁ l₁₂ : List ℕ}
    → l₁ ≡ sets l₀ 0 (le_bytes 4 (e.offset % 2 ^ 32)) → l₂ ≡ sets l₁ 4 (le_bytes 4 e.index) → l₃ ≡ sets l₂ 8 (le_bytes 2 e.scan_event)
    → l₄ ≡ sets l₃ 10 (le_bytes 2 e.scan_segment) → l₅ ≡ sets l₄ 12 (le_bytes 8 0) → l₆ ≡ sets l₅ 20 (le_bytes 4 e.data_size)
    → l₇ ≡ sets l₆ 24 (le_bytes 8 e.start_time) → l₈ ≡ sets l₇ 32 (le_bytes 8 e.total_current) → l₉ ≡ sets l₈ 40 (le_bytes 8 e.base_intensity)
    → l₁₀ ≡ sets l₉ 48 (le_bytes 8 e.base_mz) → l₁₁ ≡ sets l₁₀ 56 (le_bytes 8 e.low_mz) → l₁₂ ≡ sets l₁₁ 64 (le_bytes 8 e.high_mz)
    → l₁₂ ≡ sets l₀ 0 (written (layout false false) e)
unfolding layout
stored_fields e l₀ a b c d f g h i j k m n =
    let low : le_bytes 4 (e.offset % 2 ^ 32) ≡ le_bytes 4 e.offset = le_bytes-mod 4 e.offset in
    simp (sets_word) (cc)

front_bytes : (e : ScanIndexEntry) → length (written (layout false false) e) ≡ 72
unfolding layout
front_bytes e = simp (length-append, length-le_bytes)

long_bytes : (e : ScanIndexEntry) → written (layout true true) e ≡ written (layout false false) (front e) ++ (le_bytes 8 e.offset ++ le_bytes 8 0)
unfolding layout
long_bytes e = simp (append_assoc, append-nil)

wide_bytes : (e : ScanIndexEntry) → written (layout true false) e ≡ written (layout false false) (front e) ++ le_bytes 8 e.offset
unfolding layout
wide_bytes e = simp (append_assoc, append-nil)

module _ (version : ℕ) (e : ScanIndexEntry) (l : List ℕ) {l₁ l₂ : List ℕ}
    (one : l₁ ≡ sets l 0 (written (layout false false) (front e))) (two : l₂ ≡ sets l₁ 72 (le_bytes 8 e.offset)) where
  after_front : (w : List ℕ) → sets l 0 (written (layout false false) (front e) ++ w) ≡ sets l₁ 72 w
  after_front w = rw (sets_append l 0 (written (layout false false) (front e)) w, front_bytes (front e), ← one)

  pub stored_wide : 64 ≤ version → version < 66 → l₂ ≡ sets l 0 (written (entry_layout version) e)
  stored_wide h k = rw (le-leb 64 version h, lt-leb 66 version k, wide_bytes e, after_front (le_bytes 8 e.offset)) two

  pub stored_long : 66 ≤ version → {l₃ : List ℕ} → l₃ ≡ sets l₂ 80 (le_bytes 8 0) → l₃ ≡ sets l 0 (written (entry_layout version) e)
  stored_long h three =
      let wide : 64 ≤ version = omega arith in
      rw (le-leb 64 version wide, le-leb 66 version h, long_bytes e, after_front (le_bytes 8 e.offset ++ le_bytes 8 0), sets_word l₁ 72 8 e.offset (le_bytes 8 0), ← two) three

pub stored_front : (version : ℕ) (e : ScanIndexEntry) (l : List ℕ) {l₁ : List ℕ} → version < 64 → l₁ ≡ sets l 0 (written (layout false false) e)
    → l₁ ≡ sets l 0 (written (entry_layout version) e)
stored_front version e l h one =
    let short : version < 66 = omega arith in
    rw (lt-leb 64 version h, lt-leb 66 version short) one
