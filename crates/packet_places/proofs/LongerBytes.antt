-- Demand 3 for where a packet's parts stand.
use mathlib.Core.Path.{◌≡◌}
use Prim.Native.Nat.{ℕ, ◌+◌, ◌*◌, ◌^◌, ◌<◌}
use lib.Dec.{eqb, lit≤}
use Rattle.refusal.specs.Outcome.{ok, on_ok}
use Rattle.refusal.specs.Number.{outcome_of}
use Rattle.refusal.proofs.OneAnswer.{answer_one}
use Rattle.parser.specs.Parser.{done, ◌>>=◌}
use Rattle.parser.specs.Call.{single}
use Rattle.parser.specs.LongerBytes.{OnLongerBytes, PrefixProperty, Names, Completes}
use Rattle.parser.proofs.Completion.{Bounded, bounded_more}
use Rattle.parser.proofs.DemandBound.{DemandBound, Any, demand_done, demand_cond, demand_bind}
use Rattle.parser.proofs.Calls.{prefix_property, only_part, single_completes}
use Rattle.packet_header.specs.Header.{header}
use Rattle.packet_header.specs.declared.PacketHeader.{PacketHeader}
use Rattle.packet_header.proofs.LongerBytes.{Sizable, header_demand}
use Rattle.packet_peak_list.specs.PeakList.{peak_list}
use Rattle.packet_peak_list.proofs.LongerBytes.{peak_list_demand}
use Rattle.packet_labels.proofs.LongerBytes as labels
use Rattle.packet_profile.specs.Profile.{profile}
use Rattle.packet_profile.proofs.LongerBytes.{profile_demand}
use Rattle.packet_record.specs.Packet.{absent, present, after_peaks, contents_at}
use Rattle.packet_record.proofs.LongerBytes.{after_demand}
use Rattle.packet_places.specs.Packet.{optional_profile, packet}
use Rattle.packet_places.specs.Places.{packet_places, find_places}
use Rattle.packet_places.proofs.Stages.{keep, after_profile, rest}

-- at most so many bytes after the end
abbrev pub most : ℕ
most = 40 + (24 + 2 ^ 37 + (4 + 2 ^ 36 + 3 * 2 ^ 34))

module _ (far : ℕ) where
  profile_part_demand : (h : PacketHeader) → DemandBound far (24 + 2 ^ 37) Any (optional_profile h)
  unfolding optional_profile keep
  profile_part_demand h =
      demand_cond far (24 + 2 ^ 37) (eqb h.profile_size 0) Any (done absent) (profile h.layout >>= keep) (demand_done far (24 + 2 ^ 37) Any absent tt)
      (demand_bind far (24 + 2 ^ 37) 0 Any Any keep (λ p _. demand_done far 0 Any (present p) tt) (profile h.layout) (profile_demand far h.layout))

  rest_demand : (h : PacketHeader) → Sizable h → DemandBound far (24 + 2 ^ 37 + (4 + 2 ^ 36 + 3 * 2 ^ 34)) Any (rest h)
  unfolding rest after_profile
  rest_demand h size =
      demand_bind far (24 + 2 ^ 37) (4 + 2 ^ 36 + 3 * 2 ^ 34) Any Any (after_profile h)
      (λ p _. demand_bind far (4 + 2 ^ 36) (3 * 2 ^ 34) Any Any (after_peaks h p) (λ peaks _. after_demand far h size p peaks) (peak_list h) (peak_list_demand far h))
      (optional_profile h) (profile_part_demand h)

  pub packet_demand : DemandBound far most Any packet
  unfolding packet rest after_profile
  packet_demand = demand_bind far 40 (24 + 2 ^ 37 + (4 + 2 ^ 36 + 3 * 2 ^ 34)) Sizable Any rest rest_demand header (header_demand far)

pub packet_bounded : Bounded (2 ^ 62) (2 ^ 61) packet
packet_bounded = bounded_more (2 ^ 62) most (2 ^ 61) packet (lit≤ tt) (packet_demand (2 ^ 62)).bounded

module _ (at : ℕ) where
  pub places_prefix : PrefixProperty (find_places at)
  unfolding find_places
  places_prefix = prefix_property (single 4 at packet (λ p _. ok (packet_places at p, p.contents)))

  pub places_names : Names (λ q. q ≡ 4) (find_places at)
  unfolding find_places
  places_names = only_part 4 at packet (λ p _. ok (packet_places at p, p.contents)) (λ _ _. tt)

  pub places_completes : Completes 4 at (find_places at)
  unfolding find_places
  places_completes = single_completes 4 at packet (λ p _. ok (packet_places at p, p.contents)) packet_bounded (λ _ _. tt)

  pub places_longer : OnLongerBytes outcome_of (λ s r (_ : Unit {0}). on_ok (λ v. (v, contents_at s v)) (outcome_of r) ≡ find_places at s) (λ q. q ≡ 4) (λ _ _. at < 2 ^ 62)
  places_longer = labels.standing_longer outcome_of answer_one contents_at (find_places at) places_prefix 4 at places_names places_completes
