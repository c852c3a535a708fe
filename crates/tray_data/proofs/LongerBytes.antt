-- Demand 3 for the data of a scan. The data size has 32 bits.
use mathlib.Core.Path.{◌≡◌}
use Prim.Native.Nat.{ℕ, ◌^◌, ◌<◌}
use lib.Dec.{lit≤}
use Rattle.refusal.specs.Outcome.{Outcome}
use Rattle.refusal.specs.Number.{outcome_of}
use Rattle.refusal.proofs.OneAnswer.{answer_one}
use Rattle.parser.specs.Parser.{done}
use Rattle.parser.specs.LongerBytes.{OnLongerBytes, PrefixProperty, Names, Completes}
use Rattle.parser.proofs.Completion.{Bounded, bounded_bind, invariant_any}
use Rattle.parser.proofs.Calls.{NotTruncated}
use Rattle.parser.proofs.PrefixedBy.{on_ok_prefix, on_ok_out, on_ok_completes}
use Rattle.parser.proofs.OnLongerBytes.{plain_longer, one_part}
use Rattle.scan_format.specs.declared.ScanDataFormat.{ScanDataFormat}
use Rattle.scan_format.specs.declared.ScanDataFormat.TheVariants.{PacketHeader, FlatV63, FlatV66}
use Rattle.packet_record.specs.Packet.{Contents}
use Rattle.packet_record.specs.declared.PacketPlaces.{PacketPlaces}
use Rattle.packet_places.specs.Packet.{packet}
use Rattle.packet_places.specs.Places.{find_places}
use Rattle.packet_places.proofs.LongerBytes.{packet_bounded, places_prefix, places_names, places_completes}
use Rattle.srm_flat_peaks.specs.Flat.{flat_peaks, find_flat_peaks}
use Rattle.srm_flat_peaks.proofs.LongerBytes.{flat_bounded}
use Rattle.srm_flat_peaks.proofs.LongerBytes as flat
use Rattle.srm_scan.specs.Scan.{scan, peaks, find_srm_peaks}
use Rattle.srm_scan.proofs.LongerBytes.{peaks_bounded}
use Rattle.srm_scan.proofs.LongerBytes as srm
use Rattle.tray_data.specs.Data.{Content, centroids, content_of, Finding, given, implausible, of_attempt, of_finding, data_start, scan_data, packet_data, narrow_peaks, find_data}

module _ (place offset size : ℕ) where
  pub data_prefix : (format : ScanDataFormat) → PrefixProperty (find_data format place offset size)
  unfolding find_data
  data_prefix PacketHeader = on_ok_prefix (λ (v : PacketPlaces × Contents). packet_data v.0.profile v.0) (find_places (data_start place offset)) (places_prefix (data_start place offset))
  data_prefix FlatV63 = on_ok_prefix (narrow_peaks 8) (find_flat_peaks place offset size) (flat.find_prefix place offset size)
  data_prefix FlatV66 = on_ok_prefix (narrow_peaks 12) (find_srm_peaks place offset) (srm.find_prefix place offset)

  pub data_completes : size < 2 ^ 32 → (format : ScanDataFormat) → Completes 4 (data_start place offset) (find_data format place offset size)
  unfolding find_data
  data_completes h PacketHeader =
      on_ok_completes (λ (v : PacketPlaces × Contents). packet_data v.0.profile v.0) (find_places (data_start place offset)) 4 (data_start place offset) (places_completes (data_start place offset))
  data_completes h FlatV63 = on_ok_completes (narrow_peaks 8) (find_flat_peaks place offset size) 4 (data_start place offset) (flat.find_completes place offset size h)
  data_completes h FlatV66 = on_ok_completes (narrow_peaks 12) (find_srm_peaks place offset) 4 (data_start place offset) (srm.find_completes place offset)

  pub data_names : (format : ScanDataFormat) → Names (λ q. q ≡ 4) (find_data format place offset size)
  unfolding find_data
  data_names PacketHeader s part h = places_names (data_start place offset) s part (on_ok_out (λ (v : PacketPlaces × Contents). packet_data v.0.profile v.0) (find_places (data_start place offset) s) h)
  data_names FlatV63 s part h = flat.find_names place offset size s part (on_ok_out (narrow_peaks 8) (find_flat_peaks place offset size s) h)
  data_names FlatV66 s part h = srm.find_names place offset s part (on_ok_out (narrow_peaks 12) (find_srm_peaks place offset s) h)

  pub data_longer : size < 2 ^ 32 → (format : ScanDataFormat)
      → OnLongerBytes outcome_of (λ s r (_ : Unit {0}). outcome_of r ≡ find_data format place offset size s) (λ q. q ≡ 4) (λ _ _. data_start place offset < 2 ^ 62)
  data_longer h format =
      plain_longer outcome_of answer_one (find_data format place offset size) (data_prefix format) (λ q. q ≡ 4) (λ _ _. data_start place offset < 2 ^ 62) (data_names format)
      (one_part 4 (data_start place offset) (find_data format place offset size) (data_names format) (data_completes h format))

-- the parser's own bound, for calls of several parts
pub data_bounded : (at offset size : ℕ) → at < 2 ^ 62 → size < 2 ^ 32 → (format : ScanDataFormat) → Bounded (2 ^ 62) (2 ^ 61) (scan_data format at offset size)
unfolding scan_data
data_bounded at offset size low h PacketHeader =
    bounded_bind (λ _. Unit {0}) (λ p. done (given (content_of p.profile p.contents.peaks))) (2 ^ 62) (2 ^ 61) 0 (λ _ _. lit≤ tt) (λ _ _. tt) packet (invariant_any packet) packet_bounded
data_bounded at offset size low h FlatV63 =
    bounded_bind (λ _. Unit {0}) (λ a. done (of_attempt a)) (2 ^ 62) (2 ^ 61) 0 (λ _ _. lit≤ tt) (λ _ _. tt)
    (flat_peaks at offset size) (invariant_any (flat_peaks at offset size)) (flat_bounded at offset size low h)
data_bounded at offset size low h FlatV66 =
    bounded_bind (λ _. Unit {0}) (λ ps. done (given (centroids ps))) (2 ^ 62) (2 ^ 61) 0 (λ _ _. lit≤ tt) (λ _ _. tt) (scan peaks) (invariant_any (scan peaks)) peaks_bounded

pub finding_not_truncated : {A : Type 0} (f : Content → Outcome A) → ((content : Content) → NotTruncated (f content)) → (x : Finding) → NotTruncated (of_finding f x)
finding_not_truncated f h (given content) = h content
finding_not_truncated f h implausible = tt
