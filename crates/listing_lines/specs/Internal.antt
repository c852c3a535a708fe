-- What a function promises that appends a text, which no public promise cites; and a text in decimal of every number, with the proof
-- that it is one (`in_decimal`): who reads `decimal` needs the type alone, since `decimal_unique` (proofs/Digits) says that there is no other.
use Rattle.std.specs.Prelude.{◌≡◌, refl, Bool, true, false, ℕ, zero, suc, ◌+◌, ◌/◌, ◌%◌, ◌≤◌, ◌<◌, List, [], ◌∷◌, ◌++◌, ltb, length, take, drop}
use Rattle.std.proofs.Common.{arith, ltb-true, ltb-false}
use Rattle.lists.specs.Written.{over}
use Rattle.listing_lines.specs.Decimal.{digit, Decimal, one, more}

-- the slice with the text in it
unfoldable pub with_text : List ℕ → ℕ → List ℕ → List ℕ
with_text text at out = take at out ++ over text (drop at out)

-- from the place `at` of the slice `lent` on: the place and the slice that come back, if there is room. Who calls judges that
pub record Appends (text : List ℕ) (at : ℕ) (lent : List ℕ) (next : ℕ) (back : List ℕ) : Type 0 where
  pub same : length back ≡ length lent
  pub written : at + length text ≤ length lent → (next ≡ at + length text) × (back ≡ with_text text at lent)

-- ---- the text of n in decimal, digit by digit, for any bound above n
abbrev last_off : Bool → ℕ → (ℕ → List ℕ) → List ℕ
last_off true n others = digit n ∷ []
last_off false n others = others (n / 10) ++ (digit (n % 10) ∷ [])

unfoldable pub decimal_by : ℕ → ℕ → List ℕ
decimal_by zero n = []
decimal_by (suc most) n = last_off (ltb n 10) n (decimal_by most)

pub is_decimal : (most n : ℕ) → n < most → Decimal n (decimal_by most n)
unfolding decimal_by
is_decimal zero n h = absurd (omega arith)
is_decimal (suc most) n h = go (ltb n 10) refl (λ large. is_decimal most (n / 10) (omega arith))
  where
    go : (t : Bool) → ltb n 10 ≡ t → (10 ≤ n → Decimal (n / 10) (decimal_by most (n / 10))) → Decimal n (last_off t n (decimal_by most))
    go true e others = one n (ltb-true n 10 e)
    go false e others = let large = ltb-false n 10 e in more n (decimal_by most (n / 10)) large (others large)

abbrev pub in_decimal : (n : ℕ) → (text : List ℕ) × Decimal n text
in_decimal n = (decimal_by (suc n) n, is_decimal (suc n) n (omega arith))
