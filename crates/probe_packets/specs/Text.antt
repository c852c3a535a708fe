-- The text of a packet's header (docs/REQUESTS.md), after what the answer held.
use Rattle.std.specs.Prelude.{ℕ, List, ◌++◌}
use Rattle.packet_header.specs.declared.PacketHeader.{PacketHeader}
use Rattle.probe_text.specs.Answers.{bits_field, field, ok_number}

abbrev pub with_header : List ℕ → PacketHeader → List ℕ
with_header text h =
    (((((((text ++ ok_number h.profile_size) ++ field h.peak_list_size) ++ field h.layout)
    ++ field h.descriptor_list_size) ++ field h.unknown_stream_size) ++ field h.triplet_stream_size)
    ++ bits_field 8 h.low_mz) ++ bits_field 8 h.high_mz
