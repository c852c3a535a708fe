-- A whole packet (`ScanDataPacket::read` of scan_data.rs), its profile read chunk by chunk.
use Rattle.std.specs.Prelude.{ℕ, cond, eqb}
use Rattle.parser.specs.Parser.{Parser, done, ◌>>=◌}
use Rattle.packet_header.specs.Header.{header}
use Rattle.packet_header.specs.declared.PacketHeader.{PacketHeader}
use Rattle.packet_peak_list.specs.PeakList.{peak_list}
use Rattle.packet_profile.specs.Profile.{profile, size_of_profile}
use Rattle.packet_record.specs.Packet.{OptionalProfile, absent, present, Packet, after_peaks}

-- a profile of size 0 is none. Any other is as long as its chunks, whatever its size says
unfoldable pub optional_profile : PacketHeader → Parser OptionalProfile
optional_profile h = cond (eqb h.profile_size 0) (done absent) (profile h.layout >>= λ p. done (present p))

abbrev pub optional_size : PacketHeader → OptionalProfile → ℕ
optional_size h absent = 0
optional_size h (present p) = size_of_profile h.layout p

unfoldable pub packet : Parser Packet
packet = do
  h ← header
  p ← optional_profile h
  peaks ← peak_list h
  after_peaks h p peaks
