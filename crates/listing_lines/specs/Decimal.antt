-- A number's text in decimal.
use Rattle.std.specs.Prelude.{ℕ, ◌/◌, ◌%◌, ◌≤◌, ◌<◌, List, [], ◌∷◌, ◌++◌, get_or}
use Rattle.text.specs.Text.{ascii}

-- the character of a digit below 16
unfoldable pub digit : ℕ → ℕ
digit d = get_or (ascii "0123456789abcdef") d 0

-- below 10 it is n's digit; else the text of n / 10, and the last digit
pub data Decimal : ℕ → List ℕ → Type 0 where
  one : (n : ℕ) → n < 10 → Decimal n (digit n ∷ [])
  more : (n : ℕ) (front : List ℕ) → 10 ≤ n → Decimal (n / 10) front → Decimal n (front ++ (digit (n % 10) ∷ []))
