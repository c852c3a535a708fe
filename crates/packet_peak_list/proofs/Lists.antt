-- A peak list is one test and its peaks, by their places.
use mathlib.Core.Path.{◌≡◌, refl, ap, sym, ◌∙◌}
use Prim.Native.Nat.{ℕ, ◌+◌, ◌*◌, ◌≤◌, ◌<◌}
use native.Mathlib.Nat.{add-zero, zero-add, zero-mul, add_assoc}
use mathlib.Core.Bool.{Bool, true, false}
use mathlib.Core.List.{List}
use mathlib.Core.Logic.{⊎_elim}
use lib.Dec.{leb, eqb}
use lib.ListN.{length}
use borrow.Author.Tests.{le-leb, lt-leb, eq-eqb, ne_eqb, eqb-true}
use Rattle.refusal.specs.Outcome.{ok, ran_out}
use Rattle.lists.proofs.Laws.{each_none, each_same}
use Rattle.parser.specs.Parser.{parsed, bytes, little_endian, remaining, within, Parser, parse, word, counted, ◌>>=◌}
use Rattle.parser.specs.Call.{outcome}
use Rattle.parser.specs.Internal.{Sized, value}
use Rattle.lists.proofs.Cases.{bool_cases}
use Rattle.parser.proofs.Prefix.{within_parsed}
use Rattle.parser.proofs.Fixed.{parse_sized, parse_stage, sized_word, sized_counted, value_each}
use Rattle.packet_header.specs.declared.PacketHeader.{PacketHeader}
use Rattle.peaks.specs.Peaks.{Peak, peak, peak_at, peaks_at}
use Rattle.peaks.proofs.Columns.{length-peaks}
use Rattle.packet_peak_list.specs.PeakList.{is_wide, item_size, peak_list, list_place, read_peaks}

peak_sized : (wide : Bool) → Sized (item_size wide) (peak wide)
unfolding peak
peak_sized true = λ _ _. tt
peak_sized false = λ _ _. tt

peak_value : (wide : Bool) (s : List ℕ) (at off : ℕ) → value (peak wide) s at off ≡ peak_at wide s (at + off)
unfolding peak
peak_value true s at off = rw (add_assoc at off 8)
peak_value false s at off = rw (add_assoc at off 4)

-- so many peaks
abbrev pub peaks : Bool → ℕ → Parser (List Peak)
peaks wide n = counted n (item_size wide) (peak wide)

pub peaks_sized : (wide : Bool) (n : ℕ) → Sized (n * item_size wide) (peaks wide n)
unfolding counted
peaks_sized wide n = sized_counted (item_size wide) (peak wide) (peak_sized wide) n

module _ (wide : Bool) (s : List ℕ) where
  peaks_value : (n at : ℕ) → value (peaks wide n) s at 0 ≡ peaks_at wide (item_size wide) s at n
  unfolding counted peaks_at
  peaks_value n at =
      value_each (item_size wide) (peak wide) (peak_sized wide) n s at 0
      ∙ each_same _ _ n (λ i. ap (value (peak wide) s at) (zero-add (i * item_size wide)) ∙ peak_value wide s at (i * item_size wide))

  parse_peaks : (n at : ℕ)
      → parse (peaks wide n) s at ≡ within (leb (n * item_size wide) (remaining s at)) (parsed (peaks_at wide (item_size wide) s at n) (at + n * item_size wide))
  parse_peaks n at = parse_sized (n * item_size wide) (peaks wide n) (peaks_sized wide n) s at ∙ rw (peaks_value n at)

  -- the count word, and the peaks
  parse_list : (n at : ℕ) → n ≡ little_endian (bytes s at 4)
      → parse (word 4 >>= peaks wide) s at
      ≡ within (leb 4 (remaining s at)) (within (leb (n * item_size wide) (remaining s (at + 4))) (parsed (peaks_at wide (item_size wide) s (at + 4) n) (at + 4 + n * item_size wide)))
  parse_list n at e =
      let place : at + 0 ≡ at = add-zero at in
      parse_stage 4 (word 4) (peaks wide) (sized_word 4) s at ∙ rw (place, ← e, parse_peaks n (at + 4))

-- what the list of a header is, by the tests that decide it
module _ (h : PacketHeader) (s : List ℕ) (at : ℕ) (wide : Bool) (w : wide ≡ is_wide h.layout) where
  parse_none : h.peak_list_size ≡ 0 → parse (peak_list h) s at ≡ parsed (peaks_at wide (item_size wide) s at 0) at
  unfolding peak_list parse peaks_at
  parse_none e = rw (eq-eqb h.peak_list_size 0 e, ← each_none (λ i. peak_at wide s (at + i * item_size wide)))

  pub no_list : h.peak_list_size ≡ 0 → ok (record { at = at; count = 0; wide = wide; next = at }) ≡ read_peaks h at s
  unfolding read_peaks outcome
  no_list e = rw (parse_none e, ← w, length-peaks wide (item_size wide) s at 0, eq-eqb h.peak_list_size 0 e, add-zero at, zero-mul (item_size wide), add-zero at)

  module _ (some : h.peak_list_size ≡ 0 → ⊥) where
    pub short_count : remaining s at < 4 → ran_out 4 ≡ read_peaks h at s
    unfolding read_peaks outcome peak_list
    short_count t = rw (ne_eqb h.peak_list_size 0 some, parse_list (is_wide h.layout) s (little_endian (bytes s at 4)) at refl, lt-leb _ _ t)

    module _ (t : 4 ≤ remaining s at) (n : ℕ) (e : n ≡ little_endian (bytes s at 4)) where
      pub short_peaks : remaining s (at + 4) < n * item_size wide → ran_out 4 ≡ read_peaks h at s
      unfolding read_peaks outcome peak_list
      short_peaks u = rw (ne_eqb h.peak_list_size 0 some, ← w, parse_list wide s n at e, le-leb _ _ t, lt-leb _ _ u)

      pub whole_list : n * item_size wide ≤ remaining s (at + 4)
          → ok (record { at = at + 4; count = n; wide = wide; next = at + 4 + n * item_size wide }) ≡ read_peaks h at s
      unfolding read_peaks outcome peak_list
      whole_list u =
          rw (ne_eqb h.peak_list_size 0 some, ← w, parse_list wide s n at e, le-leb _ _ t, le-leb _ _ u, length-peaks wide (item_size wide) s (at + 4) n)

-- a list that was parsed: its peaks stand after its count word, and end it
pub record Listed (h : PacketHeader) (s : List ℕ) (at : ℕ) (peaks : List Peak) (next : ℕ) : Type 0 where
  pub stand : peaks ≡ peaks_at (is_wide h.layout) (item_size (is_wide h.layout)) s (list_place h at peaks).at (length peaks)
  pub end : next ≡ (list_place h at peaks).next

pub listed : (h : PacketHeader) (s : List ℕ) (at : ℕ) {peaks : List Peak} {next : ℕ} → parse (peak_list h) s at ≡ parsed peaks next → Listed h s at peaks next
unfolding peak_list
listed h s at {peaks} {next} e =
    let wide = is_wide h.layout in
    let z = item_size wide in
    ⊎_elim
    (λ (t : eqb h.peak_list_size 0 ≡ true).
    let f : parsed (peaks_at wide z s at 0) at ≡ parsed peaks next = sym (parse_none h s at wide refl (eqb-true _ _ t)) ∙ e in
    let a : peaks ≡ peaks_at wide z s at 0 = cc in
    let b : next ≡ at = cc in
    let size : length peaks ≡ 0 = ap length a ∙ length-peaks wide z s at 0 in
    record { stand = a ∙ rw (t, size, add-zero at); end = b ∙ rw (t, size, zero-mul z, add-zero at, add-zero at) })
    (λ (t : eqb h.peak_list_size 0 ≡ false).
    let n = little_endian (bytes s at 4) in
    let o = within_parsed (leb 4 (remaining s at)) _ (sym (parse_list wide s n at refl) ∙ rw t at e) in
    let i = within_parsed (leb (n * z) (remaining s (at + 4))) _ o.1 in
    let a : peaks ≡ peaks_at wide z s (at + 4) n = cc i.1 in
    let b : next ≡ at + 4 + n * z = cc i.1 in
    let size : length peaks ≡ n = ap length a ∙ length-peaks wide z s (at + 4) n in
    record { stand = a ∙ rw (t, size); end = b ∙ rw (t, size) })
    (bool_cases (eqb h.peak_list_size 0))
