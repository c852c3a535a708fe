-- The parts of a packet found in turn: header, profile, peak list and labels. No public promise cites it.
use Rattle.std.specs.Prelude.{ℕ, ◌+◌, List, Option}
use Rattle.refusal.specs.Outcome.{Outcome, ok, and_then}
use Rattle.parser.specs.Call.{outcome, single}
use Rattle.packet_header.specs.Header.{read_packet_header}
use Rattle.packet_header.specs.declared.PacketHeader.{PacketHeader}
use Rattle.packet_peak_list.specs.PeakList.{read_peaks}
use Rattle.packet_labels.specs.Labels.{Streams}
use Rattle.packet_profile.specs.declared.Profile.{Profile}
use Rattle.packet_record.specs.Packet.{profile_place, with_labels}
use Rattle.packet_record.specs.declared.PacketPlaces.{PacketPlaces}
use Rattle.packet_places.specs.Packet.{optional_profile}

-- the profile after the header, and the place after it
unfoldable pub find_profile : PacketHeader → ℕ → List ℕ → Outcome (Option Profile × ℕ)
find_profile h at s = outcome (single 4 (at + 40) (optional_profile h) (λ p next. ok (profile_place h.layout at p, next))) s

unfoldable pub after_header : PacketHeader → ℕ → List ℕ → Outcome (PacketPlaces × Streams)
after_header h at s = and_then (find_profile h at s) (λ p. and_then (read_peaks h p.1 s) (λ list. with_labels h p.0 list s))

unfoldable pub in_turn : ℕ → List ℕ → Outcome (PacketPlaces × Streams)
in_turn at s = and_then (read_packet_header at s) (λ h. after_header h at s)
