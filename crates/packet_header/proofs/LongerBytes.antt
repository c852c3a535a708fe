-- Demand 3 for a packet's header, and the sizes in it.
use mathlib.Core.Path.{◌≡◌}
use Prim.Native.Nat.{ℕ, ◌^◌, ◌<◌}
use lib.Dec.{lit≤}
use Rattle.refusal.specs.Outcome.{ok}
use Rattle.refusal.specs.Number.{outcome_of}
use Rattle.refusal.proofs.OneAnswer.{answer_one}
use Rattle.parser.specs.LongerBytes.{OnLongerBytes}
use Rattle.parser.proofs.Completion.{ValueInvariant, invariant_word}
use Rattle.parser.proofs.DemandBound.{DemandBound, Any, demand_sized, demand_known}
use Rattle.parser.proofs.Records.{OnePart, record_part}
use Rattle.packet_header.specs.Header.{header, read_packet_header}
use Rattle.packet_header.specs.declared.PacketHeader.{PacketHeader}
use Rattle.packet_header.proofs.Size.{header_sized}

pub header_part : (at : ℕ) → OnePart outcome_of 4 at (read_packet_header at)
unfolding read_packet_header
header_part at = record_part 4 at header (λ h _. ok h) 40 header_sized outcome_of answer_one (lit≤ tt) (λ _ _. tt)

-- the terms' sentences, on what `PacketHeader::read` answers
pub header_longer : (at : ℕ) → OnLongerBytes outcome_of (λ s r (_ : Unit {0}). outcome_of r ≡ read_packet_header at s) (λ q. q ≡ 4) (λ _ _. at < 2 ^ 62)
header_longer at = (header_part at).longer

-- sizes that were read are below 2^32
pub record Sizable (h : PacketHeader) : Type 0 where
  pub profile : h.profile_size < 256 ^ 4
  pub descriptors : h.descriptor_list_size < 256 ^ 4
  pub unknown : h.unknown_stream_size < 256 ^ 4
  pub triplets : h.triplet_stream_size < 256 ^ 4

header_sizable : ValueInvariant Sizable header
unfolding header
header_sizable =
    λ _ _ _ a la pa _ _ _ _ _ _ b lb pb c lc pc d ld pd _ _ _ _ _ _ _ _ _.
    record {
      profile = invariant_word 4 a la pa;
      descriptors = invariant_word 4 b lb pb;
      unknown = invariant_word 4 c lc pc;
      triplets = invariant_word 4 d ld pd;
    }

pub header_demand : (far : ℕ) → DemandBound far 40 Sizable header
header_demand far = demand_known far 40 header Any Sizable (demand_sized far 40 header header_sized) header_sizable
