-- What the label streams ask for after the end of the bytes.
use mathlib.Core.Path.{◌≡◌}
use Prim.Native.Nat.{ℕ, ◌*◌, ◌^◌, ◌<◌}
use native.Mathlib.Omega.{arith}
use mathlib.Core.List.{List, ◌++◌}
use lib.Dec.{lit≤}
use Rattle.refusal.specs.Outcome.{Outcome, ok, refused, on_ok}
use Rattle.refusal.specs.Number.{outcome_of}
use Rattle.refusal.proofs.OneAnswer.{answer_one}
use Rattle.parser.specs.Call.{single}
use Rattle.parser.specs.LongerBytes.{OnLongerBytes, PrefixProperty, Names, Completes}
use Rattle.parser.proofs.Completion.{bounded_more}
use Rattle.parser.proofs.Calls.{prefix_property, only_part, single_completes}
use Rattle.parser.proofs.PrefixedBy.{on_ok_prefix, on_ok_out, on_ok_completes}
use Rattle.parser.proofs.OnLongerBytes.{one_part, plain_longer}
use Rattle.parser.proofs.DemandBound.{DemandBound, Any, demand_sized, demand_more}
use Rattle.packet_header.specs.declared.PacketHeader.{PacketHeader}
use Rattle.packet_header.proofs.LongerBytes.{Sizable}
use Rattle.packet_labels.specs.Labels.{labels, label_places, streams_at, read_labels}
use Rattle.packet_labels.proofs.Answers.{total, labels_sized}

-- an answer that is promised with what stands at its places
pub answer_alone : {A B : Type 0} (g : A → B) (o : Outcome A) {t : Outcome (A × B)} → on_ok (λ a. (a, g a)) o ≡ t → o ≡ on_ok (λ (p : A × B). p.0) t
answer_alone g (ok a) e = rw (← e)
answer_alone g (refused n carries) e = rw (← e)

-- a contract that says more
pub longer_from : {R L B : Type 0} {outcome_of : R → Outcome B} {meets more : List ℕ → R → L → Type 0} {parts : ℕ → Type 0} {near : ℕ → List ℕ → Type 0}
    → ((s : List ℕ) (r : R) (ys : L) → more s r ys → meets s r ys) → OnLongerBytes outcome_of meets parts near → OnLongerBytes outcome_of more parts near
longer_from says o =
    record {
      stays = λ s t r q ys zs m l. o.stays s t r q ys zs (says s r ys m) (says (s ++ t) q zs l);
      named = λ s r ys part m. o.named s r ys part (says s r ys m);
      completes = λ s r ys part is_bytes few low m h.
          let w = o.completes s r ys part is_bytes few low (says s r ys m) h in
          (w.0, w.1, λ q zs l. w.2 q zs (says (s ++ w.0) q zs l));
    }

-- a call whose answer is promised with what stands at its places
pub standing_longer : {R A B : Type 0} (outcome_of : R → Outcome A) → ((r q : R) → outcome_of r ≡ outcome_of q → r ≡ q) → (stands : List ℕ → A → B) (f : List ℕ → Outcome (A × B))
    → PrefixProperty f → (number at : ℕ) → Names (λ q. q ≡ number) f → Completes number at f
    → OnLongerBytes outcome_of (λ s r (_ : Unit {0}). on_ok (λ a. (a, stands s a)) (outcome_of r) ≡ f s) (λ q. q ≡ number) (λ _ _. at < 2 ^ 62)
standing_longer {R} {A} {B} outcome_of one stands f prefix number at names completes =
    let answer : A × B → A = λ p. p.0 in
    let call : List ℕ → Outcome A = λ s. on_ok answer (f s) in
    let named : Names (λ q. q ≡ number) call = λ s part e. names s part (on_ok_out answer (f s) e) in
    longer_from (λ s r _ m. answer_alone (stands s) (outcome_of r) m)
    (plain_longer outcome_of one call (on_ok_prefix answer f prefix) (λ q. q ≡ number) (λ _ _. at < 2 ^ 62) named
    (one_part number at call named (on_ok_completes answer f number at completes)))

pub labels_demand : (far : ℕ) (h : PacketHeader) (n : ℕ) → Sizable h → DemandBound far (3 * 2 ^ 34) Any (labels h n)
labels_demand far h n size =
    demand_more far (total h) (3 * 2 ^ 34) (labels h n) Any (omega (arith, size.descriptors, size.unknown, size.triplets)) (demand_sized far (total h) (labels h n) (labels_sized h n))

-- demand 3, for sizes of 32 bits
module _ (h : PacketHeader) (n at : ℕ) where
  pub labels_prefix : PrefixProperty (read_labels h n at)
  unfolding read_labels
  labels_prefix = prefix_property (single 4 at (labels h n) (λ l _. ok (label_places h at l, l)))

  pub labels_names : Names (λ q. q ≡ 4) (read_labels h n at)
  unfolding read_labels
  labels_names = only_part 4 at (labels h n) (λ l _. ok (label_places h at l, l)) (λ _ _. tt)

  pub labels_completes : Sizable h → Completes 4 at (read_labels h n at)
  unfolding read_labels
  labels_completes size =
      single_completes 4 at (labels h n) (λ l _. ok (label_places h at l, l))
      (bounded_more (2 ^ 62) (3 * 2 ^ 34) (2 ^ 61) (labels h n) (lit≤ tt) (labels_demand (2 ^ 62) h n size).bounded) (λ _ _. tt)

  pub labels_longer : Sizable h → OnLongerBytes outcome_of (λ s r (_ : Unit {0}). on_ok (λ l. (l, streams_at s l)) (outcome_of r) ≡ read_labels h n at s) (λ q. q ≡ 4) (λ _ _. at < 2 ^ 62)
  labels_longer size = standing_longer outcome_of answer_one streams_at (read_labels h n at) labels_prefix 4 at labels_names (labels_completes size)
