-- A call of one part, and a part of one size: what a record of its own needs besides its layout, each from one law.
use mathlib.Core.Path.{◌≡◌, sym, ◌∙◌}
use Prim.Native.Nat.{ℕ, ◌+◌, ◌^◌, ◌≤◌, ◌<◌}
use mathlib.Core.List.{List}
use lib.Dec.{leb}
use borrow.Author.Tests.{leb-true, le-leb, lt-leb}
use Rattle.refusal.specs.Outcome.{Outcome, ran_out}
use Rattle.refusal.specs.Number.{outcome_of}
use Rattle.parser.specs.Parser.{Parser, parsed, remaining, parse}
use Rattle.parser.specs.Call.{outcome, single}
use Rattle.parser.specs.Internal.{Sized, value}
use Rattle.parser.specs.LongerBytes.{OnLongerBytes, PrefixProperty, Names, Completes}
use Rattle.parser.proofs.Prefix.{within_parsed}
use Rattle.parser.proofs.Fixed.{parse_sized}
use Rattle.parser.proofs.Completion.{Bounded, bounded_sized}
use Rattle.parser.proofs.Calls.{NotTruncated, prefix_property, only_part, single_completes}
use Rattle.parser.proofs.OnLongerBytes.{one_part, plain_longer}

-- demand 3 of a call of one part, sentence by sentence, and of a function that writes nothing and answers it
pub record OnePart {R A : Type 0} (outcome_of : R → Outcome A) (number at : ℕ) (call : List ℕ → Outcome A) : Type 0 where
  pub prefix : PrefixProperty call
  pub names : Names (λ q. q ≡ number) call
  pub completes : Completes number at call
  pub longer : OnLongerBytes outcome_of (λ s r (_ : Unit {0}). outcome_of r ≡ call s) (λ q. q ≡ number) (λ _ _. at < 2 ^ 62)

module _ {A B : Type 0} (number at : ℕ) (p : Parser B) (f : B → ℕ → Outcome A) where
  pub single_part : {R : Type 0} (outcome_of : R → Outcome A) → ((r q : R) → outcome_of r ≡ outcome_of q → r ≡ q) → Bounded (2 ^ 62) (2 ^ 61) p
      → ((b : B) (next : ℕ) → NotTruncated (f b next)) → OnePart outcome_of number at (outcome (single number at p f))
  single_part outcome_of one bounded not_truncated =
      let call = outcome (single number at p f) in
      let prefix = prefix_property (single number at p f) in
      let names = only_part number at p f not_truncated in
      let completes = single_completes number at p f bounded not_truncated in
      record {
        prefix = prefix;
        names = names;
        completes = completes;
        longer = plain_longer outcome_of one call prefix (λ q. q ≡ number) (λ _ _. at < 2 ^ 62) names (one_part number at call names completes);
      }

  module _ (n : ℕ) (sized : Sized n p) where
    pub record_part : {R : Type 0} (outcome_of : R → Outcome A) → ((r q : R) → outcome_of r ≡ outcome_of q → r ≡ q) → n ≤ 2 ^ 61
        → ((b : B) (next : ℕ) → NotTruncated (f b next)) → OnePart outcome_of number at (outcome (single number at p f))
    record_part outcome_of one small = single_part outcome_of one (bounded_sized (2 ^ 62) n (2 ^ 61) p small sized)

    -- the answer, by the one test that decides it
    module _ (s : List ℕ) where
      pub record_short : remaining s at < n → ran_out number ≡ outcome (single number at p f) s
      unfolding outcome
      record_short h = rw (parse_sized n p sized s at, lt-leb _ _ h)

      pub record_whole : n ≤ remaining s at → {o : Outcome A} → o ≡ f (value p s at 0) (at + n) → o ≡ outcome (single number at p f) s
      unfolding outcome
      record_whole h e = rw (parse_sized n p sized s at, le-leb _ _ h) e

-- a record that was read stands there
pub sized_read : {A : Type 0} (n : ℕ) (p : Parser A) → Sized n p → (s : List ℕ) (at : ℕ) {v : A} {next : ℕ} → parse p s at ≡ parsed v next
    → (n ≤ remaining s at) × (v ≡ value p s at 0) × (next ≡ at + n)
sized_read n p sized s at h =
    let w = within_parsed (leb n (remaining s at)) _ (sym (parse_sized n p sized s at) ∙ h) in
    (leb-true n (remaining s at) w.0, cc w.1, cc w.1)
