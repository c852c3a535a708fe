-- From the laws of a call to the terms' sentences on what its function answers.
use mathlib.Core.Path.{◌≡◌, refl, ap, sym, ◌∙◌}
use Prim.Native.Nat.{ℕ, ◌^◌, ◌<◌}
use mathlib.Core.List.{List, ◌++◌}
use lib.ListN.{length}
use Rattle.refusal.specs.Outcome.{Outcome, ran_out, on_ok}
use Rattle.refusal.specs.Number.{outcome_of}
use Rattle.lists.specs.Left.{Left, after}
use Rattle.parser.specs.LongerBytes.{Bytes, OnLongerBytes, PrefixProperty, Names, CompletesOn, Completes}
use Rattle.parser.proofs.PrefixedBy.{on_ok_out}

-- a part that is near, where it ran out
abbrev pub Completing : {A : Type 0} → (ℕ → List ℕ → Type 0) → (List ℕ → Outcome A) → Type 0
Completing near f = (part : ℕ) (s : List ℕ) → Bytes s → length s < 2 ^ 62 → near part s → CompletesOn part f s

-- one part only
pub one_part : {A : Type 0} (number at : ℕ) (f : List ℕ → Outcome A) → Names (λ q. q ≡ number) f → Completes number at f → Completing (λ _ _. at < 2 ^ 62) f
one_part number at f names c part s is_bytes few low h =
    let e : part ≡ number = names s part h in
    rw e (c s is_bytes few low (rw e at h))

module _ {R A B L : Type 0} (outcome_of : R → Outcome B) (one : (r q : R) → outcome_of r ≡ outcome_of q → r ≡ q) (f : List ℕ → Outcome A) (prefix : PrefixProperty f)
    (parts : ℕ → Type 0) (near : ℕ → List ℕ → Type 0) (names : Names parts f) (completing : Completing near f) where
  -- the answer and the slices go by the outcome, and a refusal 1 is seen in both
  longer : (see : Outcome A → Outcome B) (leave : Outcome A → L) (meets : List ℕ → R → L → Type 0)
      → ((o : Outcome A) (n : ℕ) → o ≡ ran_out n → see o ≡ ran_out n) → ((o : Outcome A) (n : ℕ) → see o ≡ ran_out n → o ≡ ran_out n)
      → ((s : List ℕ) (r : R) (ys : L) → meets s r ys → outcome_of r ≡ see (f s)) → ((s : List ℕ) (r : R) (ys : L) → meets s r ys → ys ≡ leave (f s))
      → OnLongerBytes outcome_of meets parts near
  longer see leave meets seen unseen answered stands =
      record {
        stays = λ s t r q ys zs m l never.
            let same : f (s ++ t) ≡ f s = prefix s t (λ part h. never part (answered s r ys m ∙ seen (f s) part h)) in (
              one q r (answered (s ++ t) q zs l ∙ ap see same ∙ sym (answered s r ys m)),
              stands (s ++ t) q zs l ∙ ap leave same ∙ sym (stands s r ys m),
            );
        named = λ s r ys part m h. names s part (unseen (f s) part (sym (answered s r ys m) ∙ h));
        completes = λ s r ys part is_bytes few low m h.
            let w = completing part s is_bytes few low (unseen (f s) part (sym (answered s r ys m) ∙ h)) in
            (w.0, w.1, λ q zs l i. w.2 (unseen (f (s ++ w.0)) part (sym (answered (s ++ w.0) q zs l) ∙ i)));
      }

  -- a call that writes to lent slices
  pub left_longer : (answer : A → B) (write : A → L → L) (xs : L) → OnLongerBytes outcome_of (λ s r (ys : L). Left answer write (f s) xs (outcome_of r) ys) parts near
  left_longer answer write xs =
      longer (on_ok answer) (λ o. after write o xs) (λ s r ys. Left answer write (f s) xs (outcome_of r) ys) (λ o n h. ap (on_ok answer) h) (λ o n h. on_ok_out answer o h)
      (λ s r ys m. m.answered) (λ s r ys m. m.stands)

-- a call that writes nothing
pub plain_longer : {R A : Type 0} (outcome_of : R → Outcome A) → ((r q : R) → outcome_of r ≡ outcome_of q → r ≡ q) → (f : List ℕ → Outcome A) → PrefixProperty f
    → (parts : ℕ → Type 0) (near : ℕ → List ℕ → Type 0) → Names parts f → Completing near f → OnLongerBytes outcome_of (λ s r (_ : Unit {0}). outcome_of r ≡ f s) parts near
plain_longer outcome_of one f prefix parts near names completing =
    longer outcome_of one f prefix parts near names completing (λ o. o) (λ _. tt) (λ s r _. outcome_of r ≡ f s) (λ o n h. h) (λ o n h. h) (λ s r _ m. m) (λ s r _ _. refl)
