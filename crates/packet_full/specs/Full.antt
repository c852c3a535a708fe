-- `ScanDataPacket::read` of scan_data.rs: a whole packet, its profile decoded chunk by chunk.
use Rattle.std.specs.Prelude.{ℕ, List, [], ◌∷◌, ◌++◌, map}
use Rattle.refusal.specs.Outcome.{Outcome}
use Rattle.parser.specs.Call.{outcome, single}
use Rattle.packet_profile.specs.Profile.{Chunk, points}
use Rattle.packet_record.specs.Packet.{OptionalProfile, absent, present, packet_if_fits}
use Rattle.packet_record.specs.declared.ScanDataPacket.{ScanDataPacket}
use Rattle.packet_places.specs.Packet.{packet}
use Rattle.packet_places.specs.Places.{packet_places}

abbrev pub signals : List Chunk → List ℕ
signals [] = []
signals (c ∷ cs) = c.signal ++ signals cs

-- chunks in four lists: first bins, how many values each has, fudges, and the values of them all
abbrev pub chunk_lists : List Chunk → List (List ℕ)
chunk_lists cs = map (λ c. c.first_bin) cs ∷ map points cs ∷ map (λ c. c.fudge) cs ∷ signals cs ∷ []

abbrev pub chunks_in : OptionalProfile → List Chunk
chunks_in absent = []
chunks_in (present p) = p.1

-- what `read_packet` answers for the packet at `at`, where slices of these capacities are lent
unfoldable pub read_packet : List ℕ → ℕ → List ℕ → Outcome ((ScanDataPacket × List ℕ) × List (List ℕ))
read_packet capacities at run =
    outcome (single 4 at packet (λ p _. packet_if_fits capacities (packet_places at p) p.contents (chunk_lists (chunks_in p.profile)))) run
