-- What a packet holds, where it stands, and what is handed out of it (`ScanDataPacket` of scan_data.rs).
use Rattle.std.specs.Prelude.{ℕ, ◌+◌, ◌*◌, List, [], ◌∷◌, ◌++◌, length, Some, None, Option, Result}
use Rattle.refusal.specs.Outcome.{Outcome, on_ok}
use Rattle.refusal.specs.Number.{outcome_of}
use Rattle.refusal.specs.declared.Refusal.{Refusal}
use Rattle.lists.specs.Left.{firsts, seconds, lists_if_fit}
use Rattle.parser.specs.Parser.{Parser, done, bytes, ◌>>=◌}
use Rattle.packet_header.specs.declared.PacketHeader.{PacketHeader}
use Rattle.peaks.specs.Peaks.{Peak, peaks_at}
use Rattle.packet_peak_list.specs.PeakList.{item_size, list_place}
use Rattle.packet_peak_list.specs.declared.PeakList.{PeakList}
use Rattle.packet_labels.specs.Labels.{Streams, labels, label_places, streams_at, read_labels}
use Rattle.packet_profile.specs.Profile.{Axis, Chunk, profile_record}
use Rattle.packet_profile.specs.declared.Profile.{Profile}
use Rattle.packet_record.specs.declared.PacketPlaces.{PacketPlaces}
use Rattle.packet_record.specs.declared.ScanDataPacket.{ScanDataPacket}

-- a profile, or none
pub data OptionalProfile : Type 0 where
  absent : OptionalProfile
  present : Axis × List Chunk → OptionalProfile

-- peaks and label streams
pub record Contents : Type 0 where
  pub peaks : List Peak
  pub labels : Streams

pub record Packet : Type 0 where
  pub header : PacketHeader
  pub profile : OptionalProfile
  pub contents : Contents

-- the label streams follow the peaks, and end the packet
unfoldable pub after_peaks : PacketHeader → OptionalProfile → List Peak → Parser Packet
after_peaks h profile peaks = labels h (length peaks) >>= λ l. done (record { header = h; profile = profile; contents = record { peaks = peaks; labels = l } })

-- where the profile of the packet at `at` stands: after the header, of 40 bytes
abbrev pub profile_place : ℕ → ℕ → OptionalProfile → Option Profile
profile_place layout at absent = None
profile_place layout at (present p) = Some (profile_record layout (at + 40) p)

-- where the parts of a packet stand whose peak list starts at `at`: the labels follow the list
unfoldable pub places_from : Option Profile → ℕ → Packet → PacketPlaces
places_from profile at p =
    let list = list_place p.header at p.contents.peaks in
    record { header = p.header; profile = profile; list = list; labels = label_places p.header list.next p.contents.labels }

-- what stands at such places
abbrev pub contents_at : List ℕ → PacketPlaces → Contents
contents_at s v = record { peaks = peaks_at v.list.wide (item_size v.list.wide) s v.list.at v.list.count; labels = streams_at s v.labels }

-- what `with_labels` answers, with the streams that stand there
unfoldable pub with_labels : PacketHeader → Option Profile → PeakList → List ℕ → Outcome (PacketPlaces × Streams)
with_labels h profile list run = on_ok (λ l. (record { header = h; profile = profile; list = list; labels = l.0 }, l.1)) (read_labels h list.count list.next run)

-- the answer's record
unfoldable pub record_of : PacketPlaces → ScanDataPacket
record_of v =
    record {
      header = v.header;
      profile = v.profile;
      peaks = v.list.count;
      descriptors = v.labels.descriptors;
      resolutions = v.labels.resolutions;
      noise_nodes = v.labels.noise_nodes;
      nodes_at = v.labels.nodes_at;
      next = v.labels.next;
    }

abbrev pub lists_of : Contents → List (List ℕ)
lists_of c = firsts c.peaks ∷ seconds c.peaks ∷ c.labels.descriptors ∷ c.labels.resolutions ∷ []

-- what is handed out: the record, with the bytes of the nodes, which stay where they are; and the lists, and more, if they fit
unfoldable pub packet_if_fits : List ℕ → PacketPlaces → Contents → List (List ℕ) → Outcome ((ScanDataPacket × List ℕ) × List (List ℕ))
packet_if_fits capacities v c more = lists_if_fit capacities (record_of v, c.labels.nodes) (lists_of c ++ more)

-- the bytes of the nodes, twelve each, at the place that the record says; and an answer with them
abbrev pub node_bytes : List ℕ → ScanDataPacket → List ℕ
node_bytes s p = bytes s p.nodes_at (p.noise_nodes * 12)

abbrev pub with_nodes : List ℕ → Result ScanDataPacket Refusal → Outcome (ScanDataPacket × List ℕ)
with_nodes s r = on_ok (λ p. (p, node_bytes s p)) (outcome_of r)
