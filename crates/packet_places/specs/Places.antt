-- Where the parts of a whole packet stand.
use Rattle.std.specs.Prelude.{ℕ, ◌+◌, List}
use Rattle.refusal.specs.Outcome.{Outcome, ok}
use Rattle.parser.specs.Call.{outcome, single}
use Rattle.packet_record.specs.Packet.{Contents, Packet, profile_place, places_from}
use Rattle.packet_record.specs.declared.PacketPlaces.{PacketPlaces}
use Rattle.packet_places.specs.Packet.{optional_size, packet}

-- of the packet at `at`
abbrev pub packet_places : ℕ → Packet → PacketPlaces
packet_places at p = places_from (profile_place p.header.layout at p.profile) (at + 40 + optional_size p.header p.profile) p

-- what `find_places` answers, with what stands there
unfoldable pub find_places : ℕ → List ℕ → Outcome (PacketPlaces × Contents)
find_places at run = outcome (single 4 at packet (λ p _. ok (packet_places at p, p.contents))) run
