-- A number by its last digit and those before it, and how many digits there are.
use mathlib.Core.Path.{◌≡◌, refl}
use mathlib.Core.List.{List, [], ◌∷◌, ◌++◌}
use mathlib.Core.Logic.{⊎_elim}
use Prim.Native.Nat.{ℕ, zero, suc, ◌-◌, ◌/◌, ◌%◌, ◌^◌, ◌≤◌, ◌<◌}
use native.Mathlib.Nat.{pow-succ'}
use native.Mathlib.Numerals.{add-one}
use native.Mathlib.Omega.{arith}
use lib.ListN.{length, length-append}
use Rattle.lists.proofs.Cases.{le_or_lt}
use Rattle.listing_lines.specs.Decimal.{digit, Decimal, one, more}
use Rattle.listing_lines.specs.Internal.{in_decimal}
use Rattle.listing_lines.specs.Lines.{decimal, hexadecimal}

-- a number has one text in decimal
pub decimal_unique : {n : ℕ} {s t : List ℕ} → Decimal n s → Decimal n t → s ≡ t
decimal_unique (one n h) (one m k) = refl
decimal_unique (one n h) (more m g k q) = absurd (omega arith)
decimal_unique (more n f h p) (one m k) = absurd (omega arith)
decimal_unique (more n f h p) (more m g k q) = rw (decimal_unique p q)

pub decimal_one : (n : ℕ) → n < 10 → decimal n ≡ digit n ∷ []
unfolding decimal
decimal_one n small = decimal_unique (in_decimal n).1 (one n small)

pub decimal_more : (n : ℕ) → 10 ≤ n → decimal n ≡ decimal (n / 10) ++ (digit (n % 10) ∷ [])
unfolding decimal
decimal_more n large = decimal_unique (in_decimal n).1 (more n (decimal (n / 10)) large (in_decimal (n / 10)).1)

pub decimal_length : (k n : ℕ) → n < 10 ^ suc k → length (decimal n) ≤ suc k
decimal_length zero n h = rw (decimal_one n (omega arith)) (omega arith)
decimal_length (suc k) n h =
    ⊎_elim
    (λ (large : 10 ≤ n).
    let p = pow-succ' 10 (suc k) in
    let few = decimal_length k (n / 10) (omega arith) in
    rw (decimal_more n large, length-append) (omega arith))
    (λ (small : n < 10). rw (decimal_one n small) (omega arith))
    (le_or_lt 10 n)

-- ---- hexadecimal digits
pub hexadecimal_none : (k n : ℕ) → k ≡ 0 → hexadecimal k n ≡ []
unfolding hexadecimal
hexadecimal_none k n e = rw e

pub hexadecimal_more : (k n : ℕ) → 1 ≤ k → hexadecimal k n ≡ hexadecimal (k - 1) (n / 16) ++ (digit (n % 16) ∷ [])
unfolding hexadecimal
hexadecimal_more zero n h = absurd (omega arith)
hexadecimal_more (suc k) n h =
    let e : suc k - 1 ≡ k = omega arith in
    rw e

pub hexadecimal_length : (k n : ℕ) → length (hexadecimal k n) ≡ k
unfolding hexadecimal
hexadecimal_length zero n = refl
hexadecimal_length (suc k) n = simp (length-append, hexadecimal_length k (n / 16)) (add-one k)

pub ruleset decimals = (decimal_one, decimal_more)
