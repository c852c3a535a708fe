-- Demand 3 for a whole packet.
use mathlib.Core.Path.{◌≡◌}
use Prim.Native.Nat.{ℕ, ◌^◌, ◌<◌}
use mathlib.Core.List.{List}
use Rattle.refusal.specs.Outcome.{Outcome}
use Rattle.refusal.specs.Number.{outcome_of}
use Rattle.lists.specs.Left.{lengths, LeftLists}
use Rattle.parser.specs.Call.{single}
use Rattle.parser.specs.LongerBytes.{OnLongerBytes, PrefixProperty, Names, Completes}
use Rattle.parser.proofs.Calls.{NotTruncated, prefix_property, only_part, single_completes}
use Rattle.packet_record.specs.Packet.{Packet, packet_if_fits, with_nodes}
use Rattle.packet_record.specs.declared.ScanDataPacket.{ScanDataPacket}
use Rattle.packet_record.proofs.LongerBytes.{fits_not_truncated, lists_longer}
use Rattle.packet_places.specs.Packet.{packet}
use Rattle.packet_places.specs.Places.{packet_places}
use Rattle.packet_places.proofs.LongerBytes.{packet_bounded}
use Rattle.packet_full.specs.Full.{chunk_lists, chunks_in, read_packet}

module _ (at : ℕ) where
  module _ (capacities : List ℕ) where
    given : Packet → ℕ → Outcome ((ScanDataPacket × List ℕ) × List (List ℕ))
    given p _ = packet_if_fits capacities (packet_places at p) p.contents (chunk_lists (chunks_in p.profile))

    given_not_truncated : (p : Packet) (next : ℕ) → NotTruncated (given p next)
    unfolding given
    given_not_truncated p _ = fits_not_truncated capacities (packet_places at p) p.contents (chunk_lists (chunks_in p.profile))

    pub packet_prefix : PrefixProperty (read_packet capacities at)
    unfolding read_packet given
    packet_prefix = prefix_property (single 4 at packet given)

    pub packet_names : Names (λ q. q ≡ 4) (read_packet capacities at)
    unfolding read_packet given
    packet_names = only_part 4 at packet given given_not_truncated

    pub packet_completes : Completes 4 at (read_packet capacities at)
    unfolding read_packet given
    packet_completes = single_completes 4 at packet given packet_bounded given_not_truncated

  pub packet_longer : (xs : List (List ℕ)) → OnLongerBytes outcome_of (λ s r ys. LeftLists (λ c. read_packet c at s) xs (with_nodes s r) ys) (λ q. q ≡ 4) (λ _ _. at < 2 ^ 62)
  packet_longer xs =
      let c = lengths xs in
      lists_longer (read_packet c at) (packet_prefix c) at (packet_names c) (packet_completes c) xs
