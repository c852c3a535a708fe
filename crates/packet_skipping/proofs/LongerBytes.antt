-- Demand 3 for a packet whose profile is passed over.
use Rattle.std.specs.Prelude.{None}
use mathlib.Core.Path.{◌≡◌}
use Prim.Native.Nat.{ℕ, ◌+◌, ◌*◌, ◌^◌, ◌<◌}
use mathlib.Core.List.{List, []}
use lib.Dec.{lit≤}
use Rattle.refusal.specs.Outcome.{Outcome}
use Rattle.refusal.specs.Number.{outcome_of}
use Rattle.lists.specs.Left.{lengths, LeftLists}
use Rattle.parser.specs.Call.{single}
use Rattle.parser.specs.LongerBytes.{OnLongerBytes, PrefixProperty, Names, Completes}
use Rattle.parser.proofs.Completion.{Bounded, bounded_more}
use Rattle.parser.proofs.DemandBound.{DemandBound, Any, demand_bind}
use Rattle.parser.proofs.Calls.{NotTruncated, prefix_property, only_part, single_completes}
use Rattle.packet_header.specs.declared.PacketHeader.{PacketHeader}
use Rattle.packet_header.proofs.LongerBytes.{Sizable}
use Rattle.peaks.specs.Peaks.{Peak}
use Rattle.packet_peak_list.specs.PeakList.{skipping, after_skipped}
use Rattle.packet_peak_list.proofs.LongerBytes.{skipping_demand}
use Rattle.packet_record.specs.Packet.{absent, Packet, places_from, packet_if_fits, with_nodes}
use Rattle.packet_record.specs.declared.ScanDataPacket.{ScanDataPacket}
use Rattle.packet_record.proofs.LongerBytes.{after_demand, fits_not_truncated, lists_longer}
use Rattle.packet_skipping.specs.Skipping.{packet_skipping, read_skip_profile}
use Rattle.packet_skipping.proofs.Answers.{beyond}

-- at most so many bytes after the end
abbrev most : ℕ
most = 40 + (2 ^ 34 + (4 + 2 ^ 36)) + 3 * 2 ^ 34

packet_demand : (far : ℕ) → DemandBound far most Any packet_skipping
unfolding packet_skipping beyond
packet_demand far =
    demand_bind far (40 + (2 ^ 34 + (4 + 2 ^ 36))) (3 * 2 ^ 34) (λ (p : PacketHeader × List Peak). Sizable p.0) Any beyond
    (λ p size. after_demand far p.0 size absent p.1) skipping (skipping_demand far)

packet_bounded : Bounded (2 ^ 62) (2 ^ 61) packet_skipping
packet_bounded = bounded_more (2 ^ 62) most (2 ^ 61) packet_skipping (lit≤ tt) (packet_demand (2 ^ 62)).bounded

module _ (at : ℕ) where
  module _ (capacities : List ℕ) where
    given : Packet → ℕ → Outcome ((ScanDataPacket × List ℕ) × List (List ℕ))
    given p _ = packet_if_fits capacities (places_from None (after_skipped p.header at) p) p.contents []

    given_not_truncated : (p : Packet) (next : ℕ) → NotTruncated (given p next)
    unfolding given
    given_not_truncated p _ = fits_not_truncated capacities (places_from None (after_skipped p.header at) p) p.contents []

    pub skip_profile_prefix : PrefixProperty (read_skip_profile capacities at)
    unfolding read_skip_profile given
    skip_profile_prefix = prefix_property (single 4 at packet_skipping given)

    pub skip_profile_names : Names (λ q. q ≡ 4) (read_skip_profile capacities at)
    unfolding read_skip_profile given
    skip_profile_names = only_part 4 at packet_skipping given given_not_truncated

    pub skip_profile_completes : Completes 4 at (read_skip_profile capacities at)
    unfolding read_skip_profile given
    skip_profile_completes = single_completes 4 at packet_skipping given packet_bounded given_not_truncated

  pub skip_profile_longer : (xs : List (List ℕ))
      → OnLongerBytes outcome_of (λ s r ys. LeftLists (λ c. read_skip_profile c at s) xs (with_nodes s r) ys) (λ q. q ≡ 4) (λ _ _. at < 2 ^ 62)
  skip_profile_longer xs =
      let c = lengths xs in
      lists_longer (read_skip_profile c at) (skip_profile_prefix c) at (skip_profile_names c) (skip_profile_completes c) xs
