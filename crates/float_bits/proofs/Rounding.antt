-- Laws of both rules of rounding: how far they go, where they agree, and each as the library has it.
use Rattle.std.proofs.Common.{◌≡◌, ℕ, zero, suc, ◌+◌, ◌-◌, ◌*◌, ◌/◌, ◌%◌, ◌<◌, ◌≤◌, Bool, true, false, eqb, ltb, ◌⊎◌, sym, refl, ap, ◌∙◌, inl, inr, ⊎_elim, add-zero, mod-lt, add-mul, one-mul, mul-add, arith, lit<, ltb-false, ltb-true, le-ltb, lt-ltb, eq-eqb, ne_eqb, eqb-true}
use native.Mathlib.Nat.{mod-add-div', div-eq_of_lt, add-mul-div_right, add-div_right}
use borrow.Author.Tests.{eqb-false}
use lib.Arith.{lt_of_le-ne}
use lib.Ieee.Nearest.{closest}
use Rattle.float_bits.specs.Rounding.{nearest_half_up, nearest_half_even}
use Rattle.float_bits.proofs.Compare.{nearest_below, nearest_tie, nearest_above}

-- ---- by the order of twice the remainder and the divisor
module _ (n d : ℕ) where
  pub even_below : n % d * 2 < d → nearest_half_even n d ≡ n / d
  even_below h = rw (ne_eqb (n % d * 2) d (λ e. omega arith), lt-ltb (n % d * 2) d h)

  pub even_tie : n % d * 2 ≡ d → nearest_half_even n d ≡ n / d + n / d % 2
  even_tie h = rw (eq-eqb (n % d * 2) d h)

  pub even_above : d < n % d * 2 → nearest_half_even n d ≡ n / d + 1
  even_above h = rw (ne_eqb (n % d * 2) d (λ e. omega arith), le-ltb (n % d * 2) d (omega arith))

  -- where n / d is no exact half the rules agree
  pub rules_agree : (n % d * 2 ≡ d → ⊥) → nearest_half_even n d ≡ nearest_half_up n d
  rules_agree h = rw (ne_eqb (n % d * 2) d h)

lt_or_le : (a b : ℕ) → (a < b) ⊎ (b ≤ a)
lt_or_le a b = go (ltb a b) refl
  where
    go : (t : Bool) → ltb a b ≡ t → (a < b) ⊎ (b ≤ a)
    go true e = inl (ltb-true a b e)
    go false e = inr (ltb-false a b e)

same_or_not : (a b : ℕ) → (a ≡ b) ⊎ (a ≡ b → ⊥)
same_or_not a b = go (eqb a b) refl
  where
    go : (t : Bool) → eqb a b ≡ t → (a ≡ b) ⊎ (a ≡ b → ⊥)
    go true e = inl (eqb-true a b e)
    go false e = inr (eqb-false a b e)

three_ways : (a b : ℕ) → (a < b) ⊎ ((a ≡ b) ⊎ (b < a))
three_ways a b = ⊎_elim inl (λ h. ⊎_elim (λ e. inr (inl e)) (λ n. inr (inr (lt_of_le-ne h (λ z. n (sym z))))) (same_or_not a b)) (lt_or_le a b)

-- a half to the even one is what a float operation does
pub half_even_is : (n d : ℕ) → nearest_half_even n d ≡ closest n d
half_even_is n d =
    ⊎_elim (λ h. even_below n d h ∙ nearest_below n d h)
    (⊎_elim (λ h. even_tie n d h ∙ nearest_tie n d h) (λ h. even_above n d h ∙ nearest_above n d h))
    (three_ways (n % d * 2) d)

zero_or_one : (k : ℕ) → k < 2 → (k ≡ 0) ⊎ (k ≡ 1)
zero_or_one zero h = inl refl
zero_or_one (suc k) h = inr (omega arith)

-- ---- a half up, as one quotient
module _ (n d : ℕ) (D : 0 < d) where
  pub half_up_is : nearest_half_up n d ≡ (n * 2 + d) / (d * 2)
  half_up_is =
      let r = n % d in
      let q = n / d in
      let low : r < d = mod-lt n D in
      let D2 : 0 < d * 2 = omega arith in
      let two : d * 2 ≡ d + d = omega arith in
      let double : q * (d * 2) ≡ q * d + q * d = ap (λ (k : ℕ). q * k) two ∙ mul-add q d d in
      let both : n * 2 + d ≡ r * 2 + d + q * (d * 2) = omega (arith, mod-add-div' n d) in
      rw (both, add-mul-div_right (r * 2 + d) q D2)
      (⊎_elim
      (λ (h : r * 2 < d).
      let none : (r * 2 + d) / (d * 2) ≡ 0 = div-eq_of_lt (omega arith) in
      rw (lt-ltb (r * 2) d h) (omega (arith, none)))
      (λ (h : d ≤ r * 2).
      let again : r * 2 + d ≡ r * 2 - d + d * 2 = omega arith in
      let none : (r * 2 - d) / (d * 2) ≡ 0 = div-eq_of_lt (omega arith) in
      let one : (r * 2 + d) / (d * 2) ≡ (r * 2 - d) / (d * 2) + 1 = rw again (add-div_right (r * 2 - d) D2) in
      rw (le-ltb (r * 2) d h) (omega (arith, none, one)))
      (lt_or_le (r * 2) d))

  -- ---- nearest: at most a half away, either way
  abbrev Near : ℕ → Type 0
  Near w = (n * 2 ≤ w * d * 2 + d) × (w * d * 2 ≤ n * 2 + d)

  down_near : n % d * 2 ≤ d → Near (n / d)
  down_near h = (omega (arith, mod-add-div' n d), omega (arith, mod-add-div' n d))

  up_near : d ≤ n % d * 2 → Near (n / d + 1)
  up_near h =
      let more : (n / d + 1) * d ≡ n / d * d + d = add-mul (n / d) 1 d ∙ ap (λ (k : ℕ). n / d * d + k) (one-mul d) in
      let low = mod-lt n D in
      (omega (arith, mod-add-div' n d), omega (arith, mod-add-div' n d))

  pub half_up_near : Near (nearest_half_up n d)
  half_up_near =
      ⊎_elim (λ (h : n % d * 2 < d). rw (lt-ltb (n % d * 2) d h) (down_near (omega arith))) (λ (h : d ≤ n % d * 2). rw (le-ltb (n % d * 2) d h) (up_near h)) (lt_or_le (n % d * 2) d)

  pub half_even_near : Near (nearest_half_even n d)
  half_even_near =
      ⊎_elim (λ (h : n % d * 2 ≡ d). rw (even_tie n d h) (go (n / d % 2) (mod-lt (n / d) (lit< tt)) h)) (λ (h : n % d * 2 ≡ d → ⊥). rw (rules_agree n d h) half_up_near) (same_or_not (n % d * 2) d)
    where
      go : (k : ℕ) → k < 2 → n % d * 2 ≡ d → Near (n / d + k)
      go k l h = ⊎_elim (λ (e : k ≡ 0). rw (e, add-zero) (down_near (omega arith))) (λ (e : k ≡ 1). rw e (up_near (omega arith))) (zero_or_one k l)
