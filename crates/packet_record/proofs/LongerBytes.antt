-- Demand 3 for the labels of a packet and for whoever hands one out, and what a packet asks for after its peak list.
use Rattle.std.specs.Prelude.{Option}
use mathlib.Core.Path.{◌≡◌, refl, ◌∙◌}
use Prim.Native.Nat.{ℕ, ◌*◌, ◌^◌, ◌<◌}
use mathlib.Core.List.{List, ◌++◌}
use lib.ListN.{length}
use Rattle.refusal.specs.Outcome.{Outcome, ok, refused, on_ok}
use Rattle.refusal.specs.Number.{outcome_of}
use Rattle.refusal.proofs.OneAnswer.{answer_one}
use Rattle.lists.specs.Left.{fits, lengths, over_all, Left, lists_if_fit}
use Rattle.parser.specs.LongerBytes.{OnLongerBytes, PrefixProperty, Names, Completes}
use Rattle.parser.proofs.Calls.{NotTruncated, not_truncated_room}
use Rattle.parser.proofs.DemandBound.{DemandBound, Any, demand_done, demand_bind}
use Rattle.parser.proofs.PrefixedBy.{on_ok_prefix, on_ok_out, on_ok_completes}
use Rattle.parser.proofs.OnLongerBytes.{one_part, left_longer}
use Rattle.packet_header.specs.declared.PacketHeader.{PacketHeader}
use Rattle.packet_header.proofs.LongerBytes.{Sizable}
use Rattle.peaks.specs.Peaks.{Peak}
use Rattle.packet_peak_list.specs.declared.PeakList.{PeakList}
use Rattle.packet_labels.specs.Labels.{Streams, labels, streams_at, read_labels}
use Rattle.packet_labels.specs.declared.Labels.{Labels}
use Rattle.packet_labels.proofs.LongerBytes.{answer_alone, longer_from, standing_longer, labels_demand, labels_prefix, labels_names, labels_completes}
use Rattle.packet_profile.specs.declared.Profile.{Profile}
use Rattle.packet_record.specs.Packet.{OptionalProfile, Contents, after_peaks, with_labels, record_of, lists_of, packet_if_fits, node_bytes, with_nodes}
use Rattle.packet_record.specs.declared.PacketPlaces.{PacketPlaces}
use Rattle.packet_record.specs.declared.ScanDataPacket.{ScanDataPacket}
use Rattle.packet_record.proofs.Found.{whole}

pub after_demand : (far : ℕ) (h : PacketHeader) → Sizable h → (profile : OptionalProfile) (peaks : List Peak) → DemandBound far (3 * 2 ^ 34) Any (after_peaks h profile peaks)
unfolding after_peaks whole
after_demand far h size profile peaks =
    demand_bind far (3 * 2 ^ 34) 0 Any Any (whole h profile peaks) (λ _ _. demand_done far 0 Any _ tt) (labels h (length peaks)) (labels_demand far h (length peaks) size)

module _ (h : PacketHeader) (profile : Option Profile) (list : PeakList) where
  with : Labels × Streams → PacketPlaces × Streams
  with l = (record { header = h; profile = profile; list = list; labels = l.0 }, l.1)

  pub with_labels_prefix : PrefixProperty (with_labels h profile list)
  unfolding with_labels with
  with_labels_prefix = on_ok_prefix with (read_labels h list.count list.next) (labels_prefix h list.count list.next)

  pub with_labels_names : Names (λ q. q ≡ 4) (with_labels h profile list)
  unfolding with_labels with
  with_labels_names s part e = labels_names h list.count list.next s part (on_ok_out with (read_labels h list.count list.next s) e)

  module _ (size : Sizable h) where
    pub with_labels_completes : Completes 4 list.next (with_labels h profile list)
    unfolding with_labels with
    with_labels_completes = on_ok_completes with (read_labels h list.count list.next) 4 list.next (labels_completes h list.count list.next size)

    pub with_labels_longer : OnLongerBytes outcome_of (λ s r (_ : Unit {0}). on_ok (λ v. (v, streams_at s v.labels)) (outcome_of r) ≡ with_labels h profile list s) (λ q. q ≡ 4)
        (λ _ _. list.next < 2 ^ 62)
    with_labels_longer =
        standing_longer outcome_of answer_one (λ s v. streams_at s v.labels) (with_labels h profile list) with_labels_prefix 4 list.next with_labels_names with_labels_completes

-- ---- whoever hands a packet out
pub fits_not_truncated : (capacities : List ℕ) (v : PacketPlaces) (c : Contents) (more : List (List ℕ)) → NotTruncated (packet_if_fits capacities v c more)
unfolding packet_if_fits lists_if_fit
fits_not_truncated capacities v c more = not_truncated_room (fits (lengths (lists_of c ++ more)) capacities) ((record_of v, c.labels.nodes), lists_of c ++ more)

firsts_of : {A B C : Type 0} (o : Outcome ((A × B) × C)) → on_ok (λ (p : A × B). p.0) (on_ok (λ (v : (A × B) × C). v.0) o) ≡ on_ok (λ (v : (A × B) × C). v.0.0) o
firsts_of (ok v) = refl
firsts_of (refused n carries) = refl

pub lists_longer : (f : List ℕ → Outcome ((ScanDataPacket × List ℕ) × List (List ℕ))) → PrefixProperty f → (at : ℕ) → Names (λ q. q ≡ 4) f → Completes 4 at f → (xs : List (List ℕ))
    → OnLongerBytes outcome_of (λ s r ys. Left (λ v. v.0) (λ v. over_all v.1) (f s) xs (with_nodes s r) ys) (λ q. q ≡ 4) (λ _ _. at < 2 ^ 62)
lists_longer f prefix at names completes xs =
    longer_from (λ s r ys l. record { answered = answer_alone (node_bytes s) (outcome_of r) l.answered ∙ firsts_of (f s); stands = l.stands })
    (left_longer outcome_of answer_one f prefix (λ q. q ≡ 4) (λ _ _. at < 2 ^ 62) names (one_part 4 at f names completes)
    (λ (v : (ScanDataPacket × List ℕ) × List (List ℕ)). v.0.0) (λ (v : (ScanDataPacket × List ℕ) × List (List ℕ)). over_all v.1) xs)
