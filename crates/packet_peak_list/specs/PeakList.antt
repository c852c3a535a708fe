-- The centroid peak list of a packet (`read_peaks` and `read_peaks_only` of scan_data.rs).
use Rattle.std.specs.Prelude.{ℕ, ◌+◌, ◌*◌, ◌/◌, ◌%◌, Bool, true, false, cond, List, [], eqb, length}
use Rattle.refusal.specs.Outcome.{Outcome, ok}
use Rattle.parser.specs.Parser.{Parser, done, ◌>>=◌, ◌>>◌, word, skip, counted}
use Rattle.parser.specs.Call.{outcome, single}
use Rattle.packet_header.specs.Header.{header}
use Rattle.packet_header.specs.declared.PacketHeader.{PacketHeader}
use Rattle.lists.specs.Left.{pairs_if_fit}
use Rattle.peaks.specs.Peaks.{Peak, peak}
use Rattle.peaks.specs.declared.PeakRow.{PeakRow}
use Rattle.packet_peak_list.specs.declared.PeakList.{PeakList}
use Rattle.packet_peak_list.specs.declared.HeaderAndPeaks.{HeaderAndPeaks}

-- layout bit 16: the m/z is stored as an f64
abbrev pub is_wide : ℕ → Bool
is_wide layout = eqb (layout / 65536 % 2) 1

abbrev pub item_size : Bool → ℕ
item_size true = 12
item_size false = 8

-- a peak list of size 0 has no count word
unfoldable pub peak_list : PacketHeader → Parser (List Peak)
peak_list h = cond (eqb h.peak_list_size 0) (done []) (word 4 >>= λ n. counted n (item_size (is_wide h.layout)) (peak (is_wide h.layout)))

-- where the peaks of the list at `at` stand, after its count word, and the place after them
abbrev pub list_place : PacketHeader → ℕ → List Peak → PeakList
list_place h at peaks =
    let first = at + cond (eqb h.peak_list_size 0) 0 4 in
    record { at = first; count = length peaks; wide = is_wide h.layout; next = first + length peaks * item_size (is_wide h.layout) }

-- its peaks, one right after the other
abbrev pub row : PeakList → PeakRow
row l = record { at = l.at; stride = item_size l.wide; count = l.count; wide = l.wide }

-- what `read_peaks` answers
unfoldable pub read_peaks : PacketHeader → ℕ → List ℕ → Outcome PeakList
read_peaks h at run = outcome (single 4 at (peak_list h) (λ peaks _. ok (list_place h at peaks))) run

-- the header, the profile, which is passed over by 4 times its stated size, and the peaks
unfoldable pub skipping : Parser (PacketHeader × List Peak)
skipping = do
  h ← header
  skip (h.profile_size * 4)
  peaks ← peak_list h
  done (h, peaks)

-- the list's place, after a profile that is passed over in the packet at `at`
abbrev pub after_skipped : PacketHeader → ℕ → ℕ
after_skipped h at = at + 40 + h.profile_size * 4

-- what `skip_to_peaks` answers
unfoldable pub skip_to_peaks : ℕ → List ℕ → Outcome HeaderAndPeaks
skip_to_peaks at run = outcome (single 4 at skipping (λ p _. ok (record { header = p.0; list = list_place p.0 (after_skipped p.0 at) p.1 }))) run

-- what `read_peaks_only` answers, where slices of these capacities are lent
unfoldable pub read_peaks_only : ℕ → ℕ → ℕ → List ℕ → Outcome (List Peak)
read_peaks_only mz abundance at run = outcome (single 4 at skipping (λ p _. pairs_if_fit mz abundance p.1)) run
