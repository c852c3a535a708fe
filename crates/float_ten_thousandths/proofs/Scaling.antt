-- Of an f64 from 2 ^ -15 to 50,000, its pattern's digits times 625, shifted, are twice its ten-thousandths; below 2 ^ -15
-- its ten-thousandths are 0.
use mathlib.Core.Path.{◌≡◌, refl, sym, ap, ◌∙◌, subst}
use mathlib.Core.Bool.{Bool, true, false, not, ◌&&◌, ◌||◌, cond}
use Prim.Native.Nat.{ℕ, ◌+◌, ◌-◌, ◌*◌, ◌/◌, ◌%◌, ◌^◌, ◌≤◌, ◌<◌}
use native.Mathlib.Nat.{le_trans, le_of_eq, lt_of_le_of_lt, le-add_right, mul_comm, mul_assoc, mul_right_comm, mul-le-mul_right, le_of_mul-le-mul_right, mod-eq_of_lt, div-eq_of_lt, div-div-eq-div-mul, add-div_right, mul-div-mul_right}
use native.Mathlib.Omega.{arith}
use lib.IntN.{pos}
use lib.Dec.{T, leb, ltb, eqb, nltb→le, nleb→lt, eqb→eq, lit≤}
use lib.Pow.{pow-add, pow_pos, shl_lt}
use lib.Ieee.{Float, nan, inf, fin, binary64, up, down, of_int, to_bits, fits, is_nan, le, lt, eq}
use lib.Ieee.Fits.{and_l, down_pos}
use lib.Ieee.Bits.{is_false}
use lib.Ieee.Nearest.{div_same}
use lib.Ieee.Exact.{HasValue}
use lib.Ieee.Positive.{num, den, positive, den_pos, positive-finite, value→cross, between, le→cross}
use Rattle.float_bits.proofs.Fields.{sig_lt, pow_lt_back, sig, exponent, Stands, stands}
use Rattle.float_bits.proofs.Exact.{num_is, den_is}
use Rattle.float_bits.proofs.Rounding.{half_up_is}
use Rattle.float_bits.specs.Rounding.{nearest_half_up}
use Rattle.float_ten_thousandths.specs.TenThousandths.{scaled}
use Rattle.float_ten_thousandths.proofs.Constants.{least}
use Rattle.float_bits.specs.Numbers.{zero_f, largest_mass}

-- ---- 50,000 by its digits
top_is : largest_mass ≡ fin false 3125 (pos 4)
unfolding of_int largest_mass
top_is = refl

-- ---- n / d to the nearest whole number, from the whole part of twice that
from_halves : (n d : ℕ) → 0 < d → (n * 2 / d + 1) / 2 ≡ nearest_half_up n d
from_halves n d D = ap (λ (k : ℕ). k / 2) (sym (add-div_right (n * 2) D)) ∙ div-div-eq-div-mul (n * 2 + d) d 2 ∙ sym (half_up_is n d D)

-- ---- a number above zero has no sign
sign_of : (x : Float) (s : Bool) (a c : ℕ) → T (positive x) → HasValue x s a c → s ≡ false
sign_of nan s a c p h = absurd p
sign_of (inf t) s a c p h = absurd p
sign_of (fin true m e) s a c p h = absurd p
sign_of (fin false m e) s a c p h = sym h.0

-- ---- an x from 2 ^ -15 to 50,000
not_nan : (x : Float) → T (positive x) → T (not (is_nan x))
unfolding is_nan
not_nan nan p = absurd p
not_nan (inf s) p = absurd p
not_nan (fin s m e) p = tt

module _ (x : Float) (F : T (fits binary64 x)) (a : T (le least x)) (h : T (le x largest_mass)) where
  -- the pattern, and its exponent's field
  abbrev b : ℕ
  b = to_bits binary64 x

  abbrev E : ℕ
  E = b / 2 ^ 52

  above_zero : T (positive x)
  above_zero = between least x (fin false 3125 (pos 4)) tt tt a (subst (λ (k : Float). T (le x k)) top_is h)

  value : Stands binary64 b x
  value = stands binary64 x F (positive-finite x above_zero)

  small : b < 2 ^ 63
  small = nleb→lt (2 ^ 63) b (subst (λ (t : Bool). T (not t)) (sym (sign_of x (leb (2 ^ 63) b) (sig binary64 (b % 2 ^ 63) * 2 ^ exponent binary64 (b % 2 ^ 63)) (2 ^ 1074) above_zero value)) tt)

  -- the size of x in units of 2 ^ -1074
  abbrev A : ℕ
  A = sig binary64 b * 2 ^ (E - 1)

  cross : num x * 2 ^ 1074 ≡ A * den x
  cross =
      value→cross x A (2 ^ 1074)
      (subst (λ (r : ℕ). HasValue x false (sig binary64 r * 2 ^ exponent binary64 r) (2 ^ 1074)) (mod-eq_of_lt small)
      (subst (λ (s : Bool). HasValue x s (sig binary64 (b % 2 ^ 63) * 2 ^ exponent binary64 (b % 2 ^ 63)) (2 ^ 1074)) (sign_of x (leb (2 ^ 63) b) (sig binary64 (b % 2 ^ 63) * 2 ^ exponent binary64 (b % 2 ^ 63)) (2 ^ 1074) above_zero value) value))

  at_least : 2 ^ 1074 ≤ A * 2 ^ 15
  at_least =
      le_of_mul-le-mul_right
      (le_trans (le_of_eq (mul_comm (2 ^ 1074) (den x)))
      (le_trans (mul-le-mul_right (2 ^ 1074) (tidy (den x) (num x) (le→cross least x tt above_zero a)))
      (le_of_eq (mul_right_comm (num x) 32768 (2 ^ 1074) ∙ ap (λ (k : ℕ). k * 32768) cross ∙ mul_right_comm A (den x) 32768))))
      (den_pos x)
    where
      tidy : (d n : ℕ) → 1 * d ≤ n * 32768 → d ≤ n * 32768
      tidy d n k = omega arith

  at_most : A ≤ 50000 * 2 ^ 1074
  at_most =
      le_of_mul-le-mul_right
      (le_trans (le_of_eq (sym cross))
      (le_trans (mul-le-mul_right (2 ^ 1074) (tidy (den x) (num x) (le→cross x (fin false 3125 (pos 4)) above_zero tt (subst (λ (k : Float). T (le x k)) top_is h))))
      (le_of_eq (mul_right_comm 50000 (den x) (2 ^ 1074)))))
      (den_pos x)
    where
      tidy : (d n : ℕ) → n * 1 ≤ 50000 * d → n ≤ 50000 * d
      tidy d n k = omega arith

  pub field_least : 1008 ≤ E
  field_least =
      tidy E
      (pow_lt_back 1074 (53 + (E - 1) + 15)
      (lt_of_le_of_lt at_least (shl_lt (53 + (E - 1)) 15 (shl_lt 53 (E - 1) (sig_lt binary64 b)))))
    where
      tidy : (e : ℕ) → 1074 < 53 + (e - 1) + 15 → 1008 ≤ e
      tidy e k = omega arith

  -- the digits, with the leading one
  abbrev q : ℕ
  q = 2 ^ 52 + b % 2 ^ 52

  size_is : A ≡ q * 2 ^ (E - 1)
  size_is = ap (λ (t : Bool). cond t (b % 2 ^ 52) q * 2 ^ (E - 1)) (is_false (eqb E 0) (some E field_least))
    where
      some : (e : ℕ) → 1008 ≤ e → T (not (eqb e 0))
      some e k = go (eqb e 0) (eqb→eq e 0)
        where
          no : e ≡ 0 → ⊥
          no z = omega arith

          go : (t : Bool) → (T t → e ≡ 0) → T (not t)
          go true z = no (z tt)
          go false z = tt

  pub field_most : E ≤ 1070
  field_most =
      tidy E
      (pow_lt_back (52 + (E - 1)) 1090
      (lt_of_le_of_lt (le_trans (le_of_eq (pow-add 2 52 (E - 1))) (mul-le-mul_right (2 ^ (E - 1)) (le-add_right (2 ^ 52) (b % 2 ^ 52))))
      (lt_of_le_of_lt (le_trans (le_of_eq (sym size_is)) at_most) (lit≤ tt))))
    where
      tidy : (e : ℕ) → 52 + (e - 1) < 1090 → e ≤ 1070
      tidy e k = omega arith

  -- twice the ten-thousandths, without the fraction
  halves_are : q * 625 / 2 ^ (1070 - E) ≡ num x * 10000 * 2 / den x
  halves_are =
      let P = 2 ^ (E - 1) in
      let all : 2 ^ (1070 - E) * 2 ^ (5 + (E - 1)) ≡ 2 ^ 1074 = sym (pow-add 2 (1070 - E) (5 + (E - 1))) ∙ ap (λ (k : ℕ). 2 ^ k) (join E field_least field_most) in
      let digits : q * 625 * 2 ^ (5 + (E - 1)) ≡ A * 20000 =
      ap (λ (k : ℕ). q * 625 * k) (pow-add 2 5 (E - 1)) ∙ sym (mul_assoc (q * 625) 32 P) ∙ ap (λ (k : ℕ). k * P) (mul_assoc q 625 32) ∙ mul_right_comm q 20000 P ∙ ap (λ (k : ℕ). k * 20000) (sym size_is) in
      sym (mul-div-mul_right (q * 625) (2 ^ (1070 - E)) (pow_pos (5 + (E - 1))))
      ∙ ap (λ (k : ℕ). k / (2 ^ (1070 - E) * 2 ^ (5 + (E - 1)))) digits
      ∙ ap (λ (k : ℕ). A * 20000 / k) all
      ∙ sym (div_same (num x * 20000) (den x) (A * 20000) (2 ^ 1074) (den_pos x) (pow_pos 1074) (mul_right_comm (num x) 20000 (2 ^ 1074) ∙ ap (λ (k : ℕ). k * 20000) cross ∙ mul_right_comm A (den x) 20000))
      ∙ ap (λ (k : ℕ). k / den x) (sym (mul_assoc (num x) 10000 2))
    where
      join : (e : ℕ) → 1008 ≤ e → e ≤ 1070 → 1070 - e + (5 + (e - 1)) ≡ 1074
      join e k l = omega arith

  pub scaled_is : (q * 625 / 2 ^ (1070 - E) + 1) / 2 ≡ scaled x
  unfolding scaled
  scaled_is = rw (num_is x, den_is x) (ap (λ (k : ℕ). (k + 1) / 2) halves_are ∙ from_halves (num x * 10000) (den x) (den_pos x))

-- ---- an x from 0 to 2 ^ -15
not_left : (p r : Bool) → T (not (p || r)) → T (not p)
not_left true r k = absurd k
not_left false r k = tt

nothing : (n d : ℕ) → n * 20000 < d → 0 ≡ nearest_half_up (n * 10000) d
nothing n d k = sym (half_up_is (n * 10000) d (omega arith) ∙ div-eq_of_lt (low k))
  where
    low : n * 20000 < d → n * 10000 * 2 + d < d * 2
    low l = omega arith

pub below_least : (x : Float) → T (le zero_f x) → T (not (le least x)) → 0 ≡ scaled x
unfolding le lt eq scaled
below_least nan p k = absurd p
below_least (inf true) p k = absurd p
below_least (inf false) p k = absurd k
below_least (fin true m e) p k =
    rw (num_is (fin true m e), den_is (fin true m e)) (nothing (m * up e) (down e) (none (m * up e) (down e) (down_pos e) (eqb→eq (0 * down e) (m * up e * 1) (and_l (eqb (0 * down e) (m * up e * 1)) (eqb (0 * down e) 0) p))))
  where
    none : (n d : ℕ) → 0 < d → 0 * d ≡ n * 1 → n * 20000 < d
    none n d D z = omega arith
below_least (fin false m e) p k =
    rw (num_is (fin false m e), den_is (fin false m e)) (nothing (m * up e) (down e)
    (few (m * up e) (down e) (down_pos e) (nltb→le (1 * down e) (m * up e * 32768) (not_left (ltb (1 * down e) (m * up e * 32768)) (eqb (1 * down e) (m * up e * 32768) && true) k))))
  where
    few : (n d : ℕ) → 0 < d → n * 32768 ≤ 1 * d → n * 20000 < d
    few n d D l = omega arith
