-- `read_skip_profile` of scan_data.rs: a packet's peaks and labels, with its profile passed over by its stated size.
use Rattle.std.specs.Prelude.{ℕ, List, [], None}
use Rattle.refusal.specs.Outcome.{Outcome}
use Rattle.parser.specs.Parser.{Parser, ◌>>=◌}
use Rattle.parser.specs.Call.{outcome, single}
use Rattle.packet_peak_list.specs.PeakList.{skipping, after_skipped}
use Rattle.packet_record.specs.Packet.{absent, Packet, after_peaks, places_from, packet_if_fits}
use Rattle.packet_record.specs.declared.ScanDataPacket.{ScanDataPacket}

unfoldable pub packet_skipping : Parser Packet
packet_skipping = skipping >>= λ p. after_peaks p.0 absent p.1

-- what `read_skip_profile` answers for the packet at `at`, where slices of these capacities are lent
unfoldable pub read_skip_profile : List ℕ → ℕ → List ℕ → Outcome ((ScanDataPacket × List ℕ) × List (List ℕ))
read_skip_profile capacities at run =
    outcome (single 4 at packet_skipping (λ p _. packet_if_fits capacities (places_from None (after_skipped p.header at) p) p.contents [])) run
