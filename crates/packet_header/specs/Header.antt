-- The header of a packet: 40 bytes.
use Rattle.std.specs.Prelude.{ℕ, List}
use Rattle.refusal.specs.Outcome.{Outcome, ok}
use Rattle.parser.specs.Parser.{Parser, done, ◌>>=◌, ◌>>◌, word, skip}
use Rattle.parser.specs.Call.{outcome, single}
use Rattle.packet_header.specs.declared.PacketHeader.{PacketHeader}

unfoldable pub header : Parser PacketHeader
header = do
  skip 4
  size_of_profile ← word 4
  peak_list_size ← word 4
  layout ← word 4
  descriptor_list_size ← word 4
  unknown_stream_size ← word 4
  triplet_stream_size ← word 4
  skip 4
  low_mz ← word 4
  high_mz ← word 4
  done (record {
    profile_size = size_of_profile;
    peak_list_size = peak_list_size;
    layout = layout;
    descriptor_list_size = descriptor_list_size;
    unknown_stream_size = unknown_stream_size;
    triplet_stream_size = triplet_stream_size;
    low_mz = low_mz;
    high_mz = high_mz;
  })

-- what `PacketHeader::read` answers: the header, or that the data, part 4, ran out
unfoldable pub read_packet_header : ℕ → List ℕ → Outcome PacketHeader
read_packet_header at run = outcome (single 4 at header (λ h _. ok h)) run
