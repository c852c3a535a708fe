-- The data of a scan, by the format of its run: a packet, flat peaks or an SRM scan; and the pairs that they give.
use Rattle.std.specs.Prelude.{ℕ, false, List, [], Some, None, Option}
use Rattle.refusal.specs.Outcome.{Outcome, refused, on_ok}
use Rattle.parser.specs.Parser.{Parser, done, ◌>>=◌, saturating_add}
use Rattle.scan_format.specs.declared.ScanDataFormat.{ScanDataFormat}
use Rattle.scan_format.specs.declared.ScanDataFormat.TheVariants.{PacketHeader, FlatV63, FlatV66}
use Rattle.peaks.specs.Peaks.{Peak, row_peaks}
use Rattle.packet_peak_list.specs.PeakList.{row}
use Rattle.packet_profile.specs.Profile.{Chunk}
use Rattle.packet_profile.specs.declared.Profile.{Profile as ProfileRecord}
use Rattle.packet_record.specs.Packet.{OptionalProfile, absent, present}
use Rattle.packet_record.specs.declared.PacketPlaces.{PacketPlaces}
use Rattle.packet_places.specs.Packet.{packet}
use Rattle.packet_places.specs.Places.{find_places}
use Rattle.srm_flat_peaks.specs.Flat.{Attempt, accepted, passed_over, flat_peaks, find_flat_peaks}
use Rattle.srm_scan.specs.Scan.{scan, peaks, find_srm_peaks}
use Rattle.calibration.specs.declared.Bins.{Bins}
use Rattle.pairs.specs.Pairs.{Pair, chunks_of, bins_of, pairs_of, peak_pairs}
use Rattle.tray_data.specs.declared.ScanData.{ScanData}
use Rattle.tray_data.specs.declared.ScanData.TheVariants.{Profile, Peaks}

-- what pairs are made of
pub data Content : Type 0 where
  profile : Bins → List Chunk → Content
  centroids : List Peak → Content

-- the profile of a packet that has one, else its peaks
abbrev pub content_of : OptionalProfile → List Peak → Content
content_of absent ps = centroids ps
content_of (present p) ps = profile (record { first_value = p.0.first_value; step = p.0.step }) p.1

-- what is found: data, or flat peaks of which neither attempt is plausible
pub data Finding : Type 0 where
  given : Content → Finding
  implausible : Finding

abbrev pub of_attempt : Attempt → Finding
of_attempt (accepted at ps) = given (centroids ps)
of_attempt passed_over = implausible

-- what follows of data that were found; else refusal 2
abbrev pub of_finding : {A : Type 0} → (Content → Outcome A) → Finding → Outcome A
of_finding f (given content) = f content
of_finding f implausible = refused 2 []

-- where the data of a scan stand: the data's place and the offset added, saturating. Flat peaks end there
abbrev pub data_start : ℕ → ℕ → ℕ
data_start place offset = saturating_add place offset

-- the data that stand at `at`
unfoldable pub scan_data : ScanDataFormat → ℕ → ℕ → ℕ → Parser Finding
scan_data PacketHeader at offset size = packet >>= λ p. done (given (content_of p.profile p.contents.peaks))
scan_data FlatV63 at offset size = flat_peaks at offset size >>= λ a. done (of_attempt a)
scan_data FlatV66 at offset size = scan peaks >>= λ ps. done (given (centroids ps))

-- the pairs: a profile's by the coefficients, or the peaks, widened
unfoldable pub pairs : List ℕ → Content → List Pair
pairs coefficients (profile bins chunks) = pairs_of bins coefficients chunks
pairs coefficients (centroids ps) = peak_pairs ps

-- what `find_data` answers: the same data, by their places
abbrev pub packet_data : Option ProfileRecord → PacketPlaces → ScanData
packet_data None v = Peaks (row v.list)
packet_data (Some p) v = Profile p

abbrev pub narrow_peaks : ℕ → ℕ × ℕ → ScanData
narrow_peaks stride p = Peaks (record { at = p.0; stride = stride; count = p.1; wide = false })

unfoldable pub find_data : ScanDataFormat → ℕ → ℕ → ℕ → List ℕ → Outcome ScanData
find_data PacketHeader place offset size run = on_ok (λ v. packet_data v.0.profile v.0) (find_places (data_start place offset) run)
find_data FlatV63 place offset size run = on_ok (narrow_peaks 8) (find_flat_peaks place offset size run)
find_data FlatV66 place offset size run = on_ok (narrow_peaks 12) (find_srm_peaks place offset run)

-- what stands at these places, and how many pairs it gives
abbrev pub content_at : ScanData → List ℕ → Content
content_at (Profile p) s = profile (bins_of p) (chunks_of p s)
content_at (Peaks w) s = centroids (row_peaks w s)

abbrev pub count_of : ScanData → ℕ
count_of (Profile p) = p.points
count_of (Peaks w) = w.count
