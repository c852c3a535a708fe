-- Data that were found are what their parser finds, and a refusal is its refusal, whatever follows.
use mathlib.Core.Path.{◌≡◌, refl, ap, sym, ◌∙◌}
use Prim.Native.Nat.{ℕ, ◌+◌}
use mathlib.Core.Bool.{false}
use mathlib.Core.List.{List}
use lib.ListN.{length}
use Rattle.refusal.specs.Outcome.{Outcome, ok, refused}
use Rattle.refusal.proofs.Outcomes.{made_of, refused_of}
use Rattle.parser.specs.Parser.{parsed, parse}
use Rattle.parser.specs.Walk.{sum}
use Rattle.parser.specs.Call.{outcome, single}
use Rattle.parser.proofs.Answered.{made_part}
use Rattle.scan_format.specs.declared.ScanDataFormat.{ScanDataFormat}
use Rattle.scan_format.specs.declared.ScanDataFormat.TheVariants.{PacketHeader, FlatV63, FlatV66}
use Rattle.packet_peak_list.specs.PeakList.{item_size}
use Rattle.packet_profile.specs.Profile.{is_fudged, Axis, Chunk, points, profile_record}
use Rattle.packet_profile.proofs.Answers.{profile_chunks}
use Rattle.packet_record.specs.Packet.{OptionalProfile, absent, present, Contents, contents_at, profile_place}
use Rattle.packet_record.specs.declared.PacketPlaces.{PacketPlaces}
use Rattle.packet_header.specs.declared.PacketHeader as head
use Rattle.packet_places.specs.Packet.{optional_profile, packet}
use Rattle.packet_places.specs.Places.{find_places}
use Rattle.packet_places.proofs.Stages.{present_parsed}
use Rattle.packet_places.proofs.Answers.{packet_short, Standing, standing}
use Rattle.srm_flat_peaks.specs.Flat.{Attempt, accepted, passed_over, flat_peaks, of_accepted, find_flat_peaks}
use Rattle.srm_flat_peaks.proofs.Answers as flat
use Rattle.srm_scan.specs.Scan.{scan, peaks, find_srm_peaks}
use Rattle.srm_scan.proofs.Answers as srm
use Rattle.pairs.specs.Pairs.{chunks_of}
use Rattle.pairs.proofs.Profiles.{chunks_parsed}
use Rattle.pairs.proofs.Writing.{length_pairs}
use Rattle.pairs.proofs.PeakPairs.{length-peak_pairs}
use Rattle.tray_data.specs.Data.{Content, profile, centroids, content_of, given, of_attempt, of_finding, data_start, scan_data, pairs, packet_data, narrow_peaks, find_data, content_at, count_of}
use Rattle.tray_data.specs.declared.ScanData.{ScanData}

-- ---- a packet
module _ (s : List ℕ) (at : ℕ) (h : head.PacketHeader) where
  chunks_are : (p : Axis × List Chunk) (next : ℕ) → parse (optional_profile h) s (at + 40) ≡ parsed (present p) next → chunks_of (profile_record h.layout (at + 40) p) s ≡ p.1
  unfolding profile_record
  chunks_are p next e =
      chunks_parsed (is_fudged h.layout) s p.0.peak_count (at + 40 + 24) (profile_chunks h.layout s (at + 40) (present_parsed h s (at + 40) p next e))

  content_is : (p : OptionalProfile) (next : ℕ) → parse (optional_profile h) s (at + 40) ≡ parsed p next → (v : PacketPlaces)
      → content_at (packet_data (profile_place h.layout at p) v) s ≡ content_of p (contents_at s v).peaks
  unfolding profile_record
  content_is absent next e v = refl
  content_is (present p) next e v = ap (profile (record { first_value = p.0.first_value; step = p.0.step })) (chunks_are p next e)

  count_is : (p : OptionalProfile) (next : ℕ) → parse (optional_profile h) s (at + 40) ≡ parsed p next → (v : PacketPlaces) (coefficients : List ℕ)
      → length (pairs coefficients (content_at (packet_data (profile_place h.layout at p) v) s)) ≡ count_of (packet_data (profile_place h.layout at p) v)
  unfolding pairs profile_record
  count_is absent next e v coefficients = length-peak_pairs v.list.wide (item_size v.list.wide) s v.list.at v.list.count
  count_is (present p) next e v coefficients = length_pairs _ coefficients _ ∙ ap (sum points) (chunks_are p next e)

packet_content : (s : List ℕ) (at : ℕ) {v : PacketPlaces} (t : Standing s at v) → content_at (packet_data v.profile v) s ≡ content_of t.stands.packet.profile t.stands.packet.contents.peaks
packet_content s at {v} t =
    ap (λ p. content_at (packet_data p v) s) t.is
    ∙ content_is s at t.header t.profile t.next t.profile_there v
    ∙ rw (t.stands.profile_is, ← t.stands.contents)

-- ---- any data
module _ (place offset size : ℕ) (s : List ℕ) where
  -- so many pairs
  pub data_count : (format : ScanDataFormat) {d : ScanData} → ok d ≡ find_data format place offset size s → (coefficients : List ℕ)
      → length (pairs coefficients (content_at d s)) ≡ count_of d
  unfolding find_data pairs
  data_count PacketHeader e coefficients =
      let m = made_of (λ (v : PacketPlaces × Contents). packet_data v.0.profile v.0) (find_places (data_start place offset) s) e in
      let v = m.value.0 in
      let t = standing s (data_start place offset) m.is in
      let same = m.made ∙ ap (λ p. packet_data p v) t.is in
      rw same (count_is s (data_start place offset) t.header t.profile t.next t.profile_there v coefficients)
  data_count FlatV63 e coefficients =
      let m = made_of (narrow_peaks 8) (find_flat_peaks place offset size s) e in
      rw m.made (length-peak_pairs false 8 s m.value.0 m.value.1)
  data_count FlatV66 e coefficients =
      let m = made_of (narrow_peaks 12) (find_srm_peaks place offset s) e in
      rw m.made (length-peak_pairs false 12 s m.value.0 m.value.1)

module _ {A : Type 0} (follow : Content → Outcome A) (place offset size : ℕ) (s : List ℕ) where
  -- peaks that were accepted, or not
  after_attempt : (a : Attempt) → of_finding follow (of_attempt a) ≡ of_accepted (λ _ ps. follow (centroids ps)) a
  after_attempt (accepted p ps) = refl
  after_attempt passed_over = refl

  pub data_found : (format : ScanDataFormat) {d : ScanData} → ok d ≡ find_data format place offset size s
      → follow (content_at d s) ≡ outcome (single 4 (data_start place offset) (scan_data format (data_start place offset) offset size) (λ f _. of_finding follow f)) s
  unfolding find_data scan_data outcome
  data_found PacketHeader e =
      let m = made_of (λ (v : PacketPlaces × Contents). packet_data v.0.profile v.0) (find_places (data_start place offset) s) e in
      let t = standing s (data_start place offset) m.is in
      ap (λ d. follow (content_at d s)) m.made
      ∙ ap follow (packet_content s (data_start place offset) t)
      ∙ sym (made_part 4 (data_start place offset) packet (λ p. given (content_of p.profile p.contents.peaks)) (λ f _. of_finding follow f) (λ p _. follow (content_of p.profile p.contents.peaks)) (λ _ _. refl) s
      ∙ rw t.stands.there)
  data_found FlatV63 e =
      let m = made_of (narrow_peaks 8) (find_flat_peaks place offset size s) e in
      ap (λ d. follow (content_at d s)) m.made
      ∙ flat.then_found (λ ps. follow (centroids ps)) place offset size s m.value.0 m.value.1 m.is
      ∙ sym (made_part 4 (data_start place offset) (flat_peaks (data_start place offset) offset size) of_attempt (λ f _. of_finding follow f) _ (λ a _. after_attempt a) s)
  data_found FlatV66 e =
      let m = made_of (narrow_peaks 12) (find_srm_peaks place offset s) e in
      ap (λ d. follow (content_at d s)) m.made
      ∙ srm.then_found (λ ps. follow (centroids ps)) place offset s m.value.0 m.value.1 m.is
      ∙ sym (made_part 4 (data_start place offset) (scan peaks) (λ ps. given (centroids ps)) (λ f _. of_finding follow f) _ (λ _ _. refl) s)

  pub data_refused : (format : ScanDataFormat) {n : ℕ} {carries : List ℕ} → refused n carries ≡ find_data format place offset size s
      → refused n carries ≡ outcome (single 4 (data_start place offset) (scan_data format (data_start place offset) offset size) (λ f _. of_finding follow f)) s
  unfolding find_data scan_data outcome
  data_refused PacketHeader e =
      let r = packet_short s (data_start place offset) (refused_of (λ (v : PacketPlaces × Contents). packet_data v.0.profile v.0) (find_places (data_start place offset) s) e) in
      sym (made_part 4 (data_start place offset) packet (λ p. given (content_of p.profile p.contents.peaks)) (λ f _. of_finding follow f) (λ p _. follow (content_of p.profile p.contents.peaks)) (λ _ _. refl) s
      ∙ rw (r.there, r.one, r.part))
  data_refused FlatV63 e =
      flat.then_refused (λ ps. follow (centroids ps)) place offset size s (refused_of (narrow_peaks 8) (find_flat_peaks place offset size s) e)
      ∙ sym (made_part 4 (data_start place offset) (flat_peaks (data_start place offset) offset size) of_attempt (λ f _. of_finding follow f) _ (λ a _. after_attempt a) s)
  data_refused FlatV66 e =
      srm.then_refused (λ ps. follow (centroids ps)) place offset s (refused_of (narrow_peaks 12) (find_srm_peaks place offset s) e)
      ∙ sym (made_part 4 (data_start place offset) (scan peaks) (λ ps. given (centroids ps)) (λ f _. of_finding follow f) _ (λ _ _. refl) s)
