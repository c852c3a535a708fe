-- The place is the first, or there is none.
use Rattle.std.proofs.Common.{◌≡◌, ℕ, Bool, true, false, List, Option, None, Some, length, arith, refl, sym, ◌∙◌}
use Rattle.std.proofs.lemmas.List.Sums.{position_or_len_is}
use Rattle.std.specs.Option.{unwrap_or}
use Rattle.std.specs.List.{position_or_len}
use Rattle.memchr.specs.Find.{IsFirstByte, is_byte}
use Rattle.probe_text.specs.Fields.{is_space}
use Rattle.probe_text.proofs.fields.far_space.Goals as goal

fails : (b : Bool) → (b ≡ true → ⊥) → b ≡ false
fails true h = absurd (h refl)
fails false h = refl

place : (xs : List ℕ) (found : Option ℕ) → IsFirstByte (is_byte 32) xs found → unwrap_or found (length xs) ≡ position_or_len is_space xs
place xs None nowhere = sym (position_or_len_is is_space xs (length xs) 0 (omega arith) (λ k h. fails _ (nowhere k (omega arith) h)) (λ h. absurd (omega arith)))
place xs (Some n) first = sym (position_or_len_is is_space xs n 0 (omega (arith, first.0.high)) (λ k h. fails _ (first.0.before k (omega arith) h)) (λ h. first.1))

pub returns-clause-value : goal.returns-clause-value
returns-clause-value c = c.unwrap_or.ensures ∙ place c.args.text.now c.memchr.result c.memchr.ensures
