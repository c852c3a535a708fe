-- A field that shows a number of one digit shows no other number.
use mathlib.Core.Path.{◌≡◌, refl, sym, ap, ◌∙◌}
use mathlib.Core.List.{List, [], ◌∷◌, ◌++◌}
use mathlib.Core.Logic.{⊎_elim}
use Prim.Native.Nat.{ℕ, zero, suc, ◌+◌, ◌/◌, ◌%◌, ◌≤◌, ◌<◌}
use native.Mathlib.Omega.{arith}
use lib.ListN.{length, get_or, length-append, get_or-append}
use lib.Seq.{get_or-append-add}
use Rattle.lists.proofs.Cases.{le_or_lt}
use Rattle.listing_lines.specs.Decimal.{digit, Decimal, one, more}
use Rattle.listing_lines.specs.Internal.{in_decimal}
use Rattle.listing_lines.specs.Lines.{decimal}
use Rattle.listing_lines.proofs.Digits.{decimal_one, decimal_more}

digit_is : (n : ℕ) → n < 10 → digit n ≡ 48 + n
unfolding digit
digit_is zero h = refl
digit_is (suc zero) h = refl
digit_is (suc (suc zero)) h = refl
digit_is (suc (suc (suc zero))) h = refl
digit_is (suc (suc (suc (suc zero)))) h = refl
digit_is (suc (suc (suc (suc (suc zero))))) h = refl
digit_is (suc (suc (suc (suc (suc (suc zero)))))) h = refl
digit_is (suc (suc (suc (suc (suc (suc (suc zero))))))) h = refl
digit_is (suc (suc (suc (suc (suc (suc (suc (suc zero)))))))) h = refl
digit_is (suc (suc (suc (suc (suc (suc (suc (suc (suc zero))))))))) h = refl
digit_is (suc (suc (suc (suc (suc (suc (suc (suc (suc (suc n)))))))))) h = absurd (omega arith)

-- a text of two digits or more has a digit at place 1
some : {n : ℕ} {s : List ℕ} → Decimal n s → 1 ≤ length s
some (one n h) = omega arith
some (more n front h p) = rw length-append (omega arith)

above : {n : ℕ} {s : List ℕ} → Decimal n s → (i : ℕ) → i < length s → 48 ≤ get_or s i 0
above (one n h) zero l = omega (arith, digit_is n h)
above (one n h) (suc i) l = absurd (omega arith)
above (more n front h p) i l =
    ⊎_elim
    (λ (last : length front ≤ i).
    let e : i ≡ length front + 0 = omega (arith, length-append front (digit (n % 10) ∷ [])) in
    rw (e, get_or-append-add front (digit (n % 10) ∷ []) 0 0) (omega (arith, digit_is (n % 10) (omega arith))))
    (λ (within : i < length front). rw (get_or-append front (digit (n % 10) ∷ []) 0 i within) (above p i within))
    (le_or_lt (length front) i)

second : (n : ℕ) (x : List ℕ) → 10 ≤ n → 48 ≤ get_or (decimal n ++ x) 1 0
unfolding decimal
second n x h =
    let two : 1 < length (decimal n) = rw (decimal_more n h, length-append) (omega (arith, some (in_decimal (n / 10)).1)) in
    rw (get_or-append (decimal n) x 0 1 two) (above (in_decimal n).1 1 two)

pub first_field : (n m c : ℕ) (x y : List ℕ) → m < 10 → c < 48 → decimal n ++ (c ∷ x) ≡ decimal m ++ (c ∷ y) → (n ≡ m) × (x ≡ y)
first_field n m c x y small mark h =
    let e = decimal_one m small in
    ⊎_elim
    (λ (large : 10 ≤ n). let no : 48 ≤ c = rw (h ∙ ap (λ l. l ++ (c ∷ y)) e) at (second n (c ∷ x) large) in absurd (omega arith))
    (λ (low : n < 10).
    let f : (digit n ∷ c ∷ x) ≡ digit m ∷ c ∷ y = sym (ap (λ l. l ++ (c ∷ x)) (decimal_one n low)) ∙ h ∙ ap (λ l. l ++ (c ∷ y)) e in
    let d : digit n ≡ digit m = cc in
    (omega (arith, digit_is n low, digit_is m small, d), cc))
    (le_or_lt 10 n)
