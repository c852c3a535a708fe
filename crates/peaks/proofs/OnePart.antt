-- Demand 3 for a call of one part, of what is made of its value: an answer of its own, or pairs in two lent slices.
use mathlib.Core.Path.{◌≡◌}
use Prim.Native.Nat.{ℕ, ◌^◌, ◌<◌}
use mathlib.Core.List.{List}
use lib.ListN.{length}
use Rattle.refusal.specs.Outcome.{Outcome}
use Rattle.refusal.specs.Number.{outcome_of}
use Rattle.refusal.proofs.OneAnswer.{answer_one}
use Rattle.lists.specs.Left.{columns, LeftPairs}
use Rattle.parser.specs.Parser.{Parser}
use Rattle.parser.specs.Call.{outcome, single}
use Rattle.parser.specs.LongerBytes.{OnLongerBytes, PrefixProperty, Names, Completes}
use Rattle.parser.proofs.Completion.{Bounded}
use Rattle.parser.proofs.Calls.{NotTruncated, prefix_property, only_part, single_completes}
use Rattle.parser.proofs.OnLongerBytes.{one_part, left_longer, plain_longer}

module _ {D : Type 0} (part at : ℕ) (p : Parser D) where
  abbrev call : {A : Type 0} → (D → Outcome A) → List ℕ → Outcome A
  call f = outcome (single part at p (λ v _. f v))

  pub call_prefix : {A : Type 0} (f : D → Outcome A) → PrefixProperty (call f)
  call_prefix f = prefix_property (single part at p (λ v _. f v))

  pub call_names : {A : Type 0} (f : D → Outcome A) → ((v : D) → NotTruncated (f v)) → Names (λ q. q ≡ part) (call f)
  call_names f done = only_part part at p (λ v _. f v) (λ v _. done v)

  module _ (bounded : at < 2 ^ 62 → Bounded (2 ^ 62) (2 ^ 61) p) where
    pub call_completes : {A : Type 0} (f : D → Outcome A) → ((v : D) → NotTruncated (f v)) → Completes part at (call f)
    call_completes f done s is_bytes few near = single_completes part at p (λ v _. f v) (bounded near) (λ v _. done v) s is_bytes few near

    pub call_longer : {A R : Type 0} (outcome_of : R → Outcome A) → ((r q : R) → outcome_of r ≡ outcome_of q → r ≡ q) → (f : D → Outcome A) → ((v : D) → NotTruncated (f v))
        → OnLongerBytes outcome_of (λ s r (_ : Unit {0}). outcome_of r ≡ call f s) (λ q. q ≡ part) (λ _ _. at < 2 ^ 62)
    call_longer outcome_of one f done =
        plain_longer outcome_of one (call f) (call_prefix f) (λ q. q ≡ part) (λ _ _. at < 2 ^ 62) (call_names f done)
        (one_part part at (call f) (call_names f done) (call_completes f done))

    pub pairs_longer : {X Y : Type 0} (f : ℕ → ℕ → D → Outcome (List (X × Y))) → ((m n : ℕ) (v : D) → NotTruncated (f m n v)) → (xs : List X) (ys : List Y)
        → OnLongerBytes outcome_of (λ s r (zs : List X × List Y). LeftPairs (λ m n. call (f m n) s) xs ys r zs.0 zs.1) (λ q. q ≡ part) (λ _ _. at < 2 ^ 62)
    pairs_longer f done xs ys =
        let g = f (length xs) (length ys) in
        let whole = done (length xs) (length ys) in
        left_longer outcome_of answer_one (call g) (call_prefix g) (λ q. q ≡ part) (λ _ _. at < 2 ^ 62) (call_names g whole)
        (one_part part at (call g) (call_names g whole) (call_completes g whole)) length columns (xs, ys)
