-- An f64 pattern's value, rounded to an f32, has the pattern that `narrow_bits` works out.
use mathlib.Core.Path.{◌≡◌, refl, sym, ap, ◌∙◌, subst}
use mathlib.Core.Logic.{◌⊎◌, inl, inr}
use mathlib.Core.Bool.{Bool, true, false, not, cond}
use Prim.Native.Nat.{ℕ, suc, ◌+◌, ◌-◌, ◌*◌, ◌/◌, ◌%◌, ◌^◌, ◌≤◌, ◌<◌, compare}
use native.Mathlib.Nat.{mul-lt-mul_of_pos_right, not-le_of_lt, le_of_mul-le-mul_right, le_trans, le_of_eq, lt_of_lt_of_le, lt_of_le_of_lt, eq-or-lt_of_le, le-add_right, mul_assoc, mul-le-mul, mul-le-mul_right, mod-eq_of_lt, div-eq_of_lt, div-lt_iff_lt-mul, le-div_iff_mul-le}
use native.Mathlib.Omega.{arith}
use lib.IntN.{ℤ}
use lib.Dec.{T, leb, ltb, ltb→lt, nltb→le, lit≤, lit<}
use lib.Pow.{pow-add, pow_pos, pow_mono, shl_lt}
use lib.Ieee.{Float, nan, inf, fin, binary32, binary64, up, down, size, nearest, round, to_bits, of_bits, fits, is_nan}
use lib.Ieee.Digits.{size-le}
use lib.Ieee.Fits.{down_pos, round-fits, nan-fits, inf-fits}
use lib.Ieee.Bits.{of_bits-to_bits}
use lib.Ieee.Nearest.{closest, closest_same}
use lib.Ieee.Order.{drop}
use lib.Ieee.Scale.{round_same}
use borrow.Author.Tests.{ne_eqb}
use Rattle.float_bits.proofs.Fields.{sig_lt, sig, exponent, Stands, stands}
use Rattle.float_bits.specs.Exact.{num, den}
use Rattle.float_bits.proofs.Exact.{num_is, den_is}
use Rattle.float_bits.proofs.Rounding.{half_even_is}
use Rattle.float_narrow.specs.Internal.{narrow_bits}
use Rattle.float_narrow.specs.Narrow.{narrow}
use Rattle.float_narrow.proofs.Ranges.{bits_none, bits_infinite, bits_subnormal, bits_normal}
use Rattle.float_bits.proofs.Compare.{compare_lt}
use Rattle.float_narrow.proofs.Pattern.{most_kept, least_kept, in_range, past_range, size_exact}

-- ---- q * 2 ^ j in units of 2 ^ -1074, as an f32: the field of the f64 is j + 1
abbrev L : ℕ
L = 2 ^ 1074

-- the same in units of 2 ^ -149 is n q j / L
abbrev n : ℕ → ℕ → ℕ
n q j = q * 2 ^ j * 2 ^ 149

n_is : (q j : ℕ) → n q j ≡ q * 2 ^ (j + 149)
n_is q j = mul_assoc q (2 ^ j) (2 ^ 149) ∙ ap (λ (k : ℕ). q * k) (sym (pow-add 2 j 149))

-- n q j / (L * 2 ^ k) is q / 2 ^ t where the powers of two agree
same_fraction : (q j k t : ℕ) → j + 149 + t ≡ 1074 + k → closest (n q j) (L * 2 ^ k) ≡ closest q (2 ^ t)
same_fraction q j k t e =
    closest_same (n q j) (L * 2 ^ k) q (2 ^ t) (subst (λ (m : ℕ). 0 < m) (pow-add 2 1074 k) (pow_pos (1074 + k))) (pow_pos t)
    (ap (λ (m : ℕ). m * 2 ^ t) (n_is q j)
    ∙ mul_assoc q (2 ^ (j + 149)) (2 ^ t)
    ∙ ap (λ (m : ℕ). q * m) (sym (pow-add 2 (j + 149) t) ∙ ap (λ (m : ℕ). 2 ^ m) e ∙ pow-add 2 1074 k))

-- the whole part is below 2 ^ i
whole_lt : (q j i : ℕ) → q < 2 ^ 53 → 53 + (j + 149) ≤ i + 1074 → n q j / L < 2 ^ i
whole_lt q j i Q h =
    (div-lt_iff_lt-mul (pow_pos 1074)).1
    (lt_of_le_of_lt (le_of_eq (n_is q j)) (lt_of_lt_of_le (shl_lt 53 (j + 149) Q) (le_trans (pow_mono h) (le_of_eq (pow-add 2 i 1074)))))

whole_ge : (q j i : ℕ) → 2 ^ 52 ≤ q → i + 1074 ≡ 52 + (j + 149) → 2 ^ i ≤ n q j / L
whole_ge q j i Q e =
    (le-div_iff_mul-le (pow_pos 1074)).1
    (le_trans (le_of_eq (sym (pow-add 2 i 1074) ∙ ap (λ (m : ℕ). 2 ^ m) e ∙ pow-add 2 52 (j + 149))) (le_trans (mul-le-mul_right (2 ^ (j + 149)) Q) (le_of_eq (sym (n_is q j)))))

none_dropped : (z : ℕ) → z ≤ 24 → z - 24 ≡ 0
none_dropped z h = omega arith

abbrev sign : Bool → ℕ
sign s = cond s (2 ^ 31) 0

closest_none : (a u : ℕ) → a * 2 < u → closest a u ≡ 0
closest_none a u h =
    let l : a < u = less h in
    ap (λ (x : ℕ). nearest x (compare (a % u * 2) u)) (div-eq_of_lt l) ∙ ap (λ (x : ℕ). nearest 0 (compare (x * 2) u)) (mod-eq_of_lt l) ∙ ap (nearest 0) (compare_lt (a * 2) u h)
  where
    less : a * 2 < u → a < u
    less k = omega arith

-- with at most 2 ^ 24 kept and 253 digits dropped, only both at their most reach the infinities
at_the_top : (c k : ℕ) → c ≤ 2 ^ 24 → k ≤ 253 → 2 ^ 277 ≤ c * 2 ^ k → k * 8388608 + c ≡ 2139095040
at_the_top c k C K h = go (eq-or-lt_of_le K)
  where
    done : k ≡ 253 → 16777216 ≤ c → c ≤ 16777216 → k * 8388608 + c ≡ 2139095040
    done e a b = omega arith

    below : k < 253 → k ≤ 252
    below l = omega arith

    go : (k ≡ 253) ⊎ (k < 253) → k * 8388608 + c ≡ 2139095040
    go (inl e) = done e (le_of_mul-le-mul_right (le_trans (lit≤ {m = 2 ^ 24 * 2 ^ 253} {n = 2 ^ 277} tt) (subst (λ (i : ℕ). 2 ^ 277 ≤ c * 2 ^ i) e h)) (pow_pos 253)) C
    go (inr l) = absurd (not-le_of_lt (lt_of_le_of_lt (mul-le-mul C (pow_mono (below l))) (lit< {m = 2 ^ 24 * 2 ^ 252} {n = 2 ^ 277} tt)) h)

module _ (s : Bool) (q j : ℕ) (hi : q < 2 ^ 53) where
  abbrev rounded : Float
  rounded = round binary32 s (q * 2 ^ j) L

  -- less than half of the smallest value
  pub none : j < 871 → to_bits binary32 rounded ≡ sign s + 0
  none h = in_range binary32 s (q * 2 ^ j) L 0 0 dropped (closest_none (n q j) (L * 2 ^ 0) (half (n q j) small)) (lit< tt)
    where
      few : j < 871 → 53 + (j + 149) ≤ 0 + 1074
      few h = omega arith

      dropped : drop 24 (n q j) L ≡ 0
      dropped = none_dropped (size (n q j / L)) (le_trans (size-le (n q j / L) 0 (whole_lt q j 0 hi (few h))) (lit≤ tt))

      room : j < 871 → 53 + (j + 149) ≤ 1072
      room h = omega arith

      small : n q j < 2 ^ 1072
      small = lt_of_le_of_lt (le_of_eq (n_is q j)) (lt_of_lt_of_le (shl_lt 53 (j + 149) hi) (pow_mono (room h)))

      half : (a : ℕ) → a < 2 ^ 1072 → a * 2 < 2 ^ 1074
      half a l = lt_of_lt_of_le (mul-lt-mul_of_pos_right l (lit< {m = 0} {n = 2} tt)) (lit≤ {m = 2 ^ 1072 * 2} {n = 2 ^ 1074} tt)

  -- digits down to 2 ^ -149 only
  pub subnormal : j < 896 → to_bits binary32 rounded ≡ sign s + (0 * 8388608 + closest q (2 ^ (925 - j)))
  subnormal h =
      let Q = closest q (2 ^ (925 - j)) in
      let Q-is = same_fraction q j 0 (925 - j) (join j h) in
      in_range binary32 s (q * 2 ^ j) L 0 Q dropped Q-is (lt_of_le_of_lt (mul-le-mul_right (2 ^ 0) (most_kept binary32 s (q * 2 ^ j) L 0 Q dropped Q-is)) (lit< tt))
    where
      dropped : drop 24 (n q j) L ≡ 0
      dropped = none_dropped (size (n q j / L)) (le_trans (size-le (n q j / L) 23 (whole_lt q j 23 hi (room j h))) (lit≤ tt))
        where
          room : (i : ℕ) → i < 896 → 53 + (i + 149) ≤ 23 + 1074
          room i k = omega arith

      join : (i : ℕ) → i < 896 → i + 149 + (925 - i) ≡ 1074 + 0
      join i k = omega arith

  module _ (lo : 2 ^ 52 ≤ q) (h : 896 ≤ j) where
    abbrev Q : ℕ
    Q = closest q (2 ^ 29)

    dropped : drop 24 (n q j) L ≡ j - 896
    dropped =
        ap (λ (z : ℕ). z - 24) (size_exact (j - 873) (n q j / L) (whole_ge q j (j - 873) lo (least j h)) (whole_lt q j (suc (j - 873)) hi (most j h))) ∙ left j h
      where
        least : (i : ℕ) → 896 ≤ i → i - 873 + 1074 ≡ 52 + (i + 149)
        least i k = omega arith

        most : (i : ℕ) → 896 ≤ i → 53 + (i + 149) ≤ suc (i - 873) + 1074
        most i k = omega arith

        left : (i : ℕ) → 896 ≤ i → suc (i - 873) - 24 ≡ i - 896
        left i k = omega arith

    Q-is : closest (n q j) (L * 2 ^ (j - 896)) ≡ Q
    Q-is = same_fraction q j (j - 896) 29 (join j h)
      where
        join : (i : ℕ) → 896 ≤ i → i + 149 + 29 ≡ 1074 + (i - 896)
        join i k = omega arith

    -- 24 digits
    pub normal : j ≤ 1149 → to_bits binary32 rounded ≡ sign s + ((j - 896) * 8388608 + Q)
    normal k = go (ltb (Q * 2 ^ (j - 896)) (2 ^ 277)) (ltb→lt (Q * 2 ^ (j - 896)) (2 ^ 277)) (nltb→le (Q * 2 ^ (j - 896)) (2 ^ 277))
      where
        top : (i : ℕ) → i ≤ 1149 → i - 896 ≤ 253
        top i l = omega arith

        go : (t : Bool) → (T t → Q * 2 ^ (j - 896) < 2 ^ 277) → (T (not t) → 2 ^ 277 ≤ Q * 2 ^ (j - 896)) → to_bits binary32 rounded ≡ sign s + ((j - 896) * 8388608 + Q)
        go true a b = in_range binary32 s (q * 2 ^ j) L (j - 896) Q dropped Q-is (a tt)
        go false a b =
            past_range binary32 s (q * 2 ^ j) L (j - 896) Q dropped Q-is (b tt)
            ∙ ap (λ (c : ℕ). sign s + c) (sym (at_the_top Q (j - 896) (most_kept binary32 s (q * 2 ^ j) L (j - 896) Q dropped Q-is) (top j k) (b tt)))

    -- past the largest value
    pub infinite : 1150 ≤ j → to_bits binary32 rounded ≡ sign s + 2139095040
    infinite k =
        past_range binary32 s (q * 2 ^ j) L (j - 896) Q dropped Q-is
        (le_trans (lit≤ {m = 2 ^ 277} {n = 2 ^ 23 * 2 ^ 254} tt) (mul-le-mul (least_kept binary32 s (q * 2 ^ j) L (j - 896) Q dropped Q-is (some j k)) (pow_mono (far j k))))
      where
        far : (i : ℕ) → 1150 ≤ i → 254 ≤ i - 896
        far i l = omega arith

        some : (i : ℕ) → 1150 ≤ i → 0 < i - 896
        some i l = omega arith

-- ---- by the field of an f64's pattern
module _ (s : Bool) (r : ℕ) where
  abbrev e : ℕ
  e = r / 2 ^ 52

  abbrev q : ℕ
  q = 2 ^ 52 + r % 2 ^ 52

  -- the value, rounded
  abbrev pub Rounded : Float
  Rounded = round binary32 s (sig binary64 r * 2 ^ (e - 1)) L

  led : 872 ≤ e → sig binary64 r ≡ q
  led h = ap (λ (t : Bool). cond t (r % 2 ^ 52) q) (ne_eqb e 0 (some e h))
    where
      some : (i : ℕ) → 872 ≤ i → i ≡ 0 → ⊥
      some i k z = omega arith

  lo : 2 ^ 52 ≤ q
  lo = le-add_right (2 ^ 52) (r % 2 ^ 52)

  hi : 872 ≤ e → q < 2 ^ 53
  hi h = subst (λ (a : ℕ). a < 2 ^ 53) (led h) (sig_lt binary64 r)

  from_digits : 872 ≤ e → {p : ℕ} → to_bits binary32 (round binary32 s (q * 2 ^ (e - 1)) L) ≡ sign s + p → p ≡ narrow_bits r → to_bits binary32 Rounded ≡ sign s + narrow_bits r
  from_digits h t u = ap (λ (a : ℕ). to_bits binary32 (round binary32 s (a * 2 ^ (e - 1)) L)) (led h) ∙ t ∙ ap (λ (k : ℕ). sign s + k) u

  -- the four ranges
  to_bits-narrow_bits : to_bits binary32 Rounded ≡ sign s + narrow_bits r
  to_bits-narrow_bits = go (ltb e 872) (ltb 1150 e) (ltb e 897) (ltb→lt e 872) (nltb→le e 872) (ltb→lt 1150 e) (nltb→le 1150 e) (ltb→lt e 897) (nltb→le e 897)
    where
      small : (i : ℕ) → i < 872 → i - 1 < 871
      small i k = omega arith

      far : (i : ℕ) → 1150 < i → 1150 ≤ i - 1
      far i k = omega arith

      far_enough : (i : ℕ) → 1150 < i → 896 ≤ i - 1
      far_enough i k = omega arith

      short : (i : ℕ) → i < 897 → i - 1 < 896
      short i k = omega arith

      digits : (i : ℕ) → 872 ≤ i → 925 - (i - 1) ≡ 926 - i
      digits i k = omega arith

      long : (i : ℕ) → 897 ≤ i → 896 ≤ i - 1
      long i k = omega arith

      near : (i : ℕ) → i ≤ 1150 → i - 1 ≤ 1149
      near i k = omega arith

      field : (i : ℕ) → 897 ≤ i → i - 1 - 896 ≡ i - 897
      field i k = omega arith

      go : (t u v : Bool) → (T t → e < 872) → (T (not t) → 872 ≤ e) → (T u → 1150 < e) → (T (not u) → e ≤ 1150) → (T v → e < 897) → (T (not v) → 897 ≤ e) → to_bits binary32 Rounded ≡ sign s + narrow_bits r
      go true u v a a' b b' c c' = none s (sig binary64 r) (e - 1) (sig_lt binary64 r) (small e (a tt)) ∙ ap (λ (k : ℕ). sign s + k) (bits_none r (a tt))
      go false true v a a' b b' c c' = from_digits (a' tt) (infinite s q (e - 1) (hi (a' tt)) lo (far_enough e (b tt)) (far e (b tt))) (bits_infinite r (a' tt) (b tt))
      go false false true a a' b b' c c' =
          from_digits (a' tt) (subnormal s q (e - 1) (hi (a' tt)) (short e (c tt))) (plain (closest q (2 ^ (925 - (e - 1)))) ∙ ap (λ (k : ℕ). closest q (2 ^ k)) (digits e (a' tt)) ∙ sym (half_even_is q (2 ^ (926 - e))) ∙ bits_subnormal r (a' tt) (b' tt) (c tt))
        where
          plain : (k : ℕ) → 0 * 8388608 + k ≡ k
          plain k = omega arith
      go false false false a a' b b' c c' =
          from_digits (a' tt) (normal s q (e - 1) (hi (a' tt)) lo (long e (c' tt)) (near e (b' tt))) (ap (λ (k : ℕ). k * 8388608 + closest q (2 ^ 29)) (field e (c' tt)) ∙ ap (λ (k : ℕ). (e - 897) * 8388608 + k) (sym (half_even_is q (2 ^ 29))) ∙ bits_normal r (a' tt) (b' tt) (c' tt))

-- ---- an f64 that is no NaN
abbrev pub pattern : ℕ → ℕ
pattern b = sign (leb (2 ^ 63) b) + narrow_bits (b % 2 ^ 63)

narrow_finite : (s : Bool) (m : ℕ) (e : ℤ) (b : ℕ) → Stands binary64 b (fin s m e) → narrow (fin s m e) ≡ Rounded (leb (2 ^ 63) b) (b % 2 ^ 63)
unfolding narrow
narrow_finite s m e b v =
    rw (num_is (fin s m e), den_is (fin s m e))
    (round_same binary32 s (m * up e) (down e) (sig binary64 (b % 2 ^ 63) * 2 ^ exponent binary64 (b % 2 ^ 63)) L (down_pos e) (pow_pos 1074) v.1
    ∙ ap (λ (t : Bool). round binary32 t (sig binary64 (b % 2 ^ 63) * 2 ^ exponent binary64 (b % 2 ^ 63)) L) v.0)

narrow_fits : (x : Float) → T (fits binary32 (narrow x))
unfolding narrow
narrow_fits nan = nan-fits binary32
narrow_fits (inf s) = inf-fits binary32 s
narrow_fits (fin s m e) = round-fits binary32 s (num (fin s m e)) (den (fin s m e))

written : (x : Float) → T (fits binary64 x) → T (not (is_nan x)) → to_bits binary32 (narrow x) ≡ pattern (to_bits binary64 x)
unfolding is_nan narrow narrow_bits to_bits
written nan F h = absurd h
written (inf true) F h = refl
written (inf false) F h = refl
written (fin s m e) F h = finite_written s m e F
  where
    finite_written : (s : Bool) (m : ℕ) (e : ℤ) → T (fits binary64 (fin s m e)) → to_bits binary32 (narrow (fin s m e)) ≡ pattern (to_bits binary64 (fin s m e))
    finite_written s m e F =
        let b = to_bits binary64 (fin s m e) in
        ap (to_bits binary32) (narrow_finite s m e b (stands binary64 (fin s m e) F tt)) ∙ to_bits-narrow_bits (leb (2 ^ 63) b) (b % 2 ^ 63)

pub read_back : (x : Float) → T (fits binary64 x) → T (not (is_nan x)) → of_bits binary32 (pattern (to_bits binary64 x)) ≡ narrow x
read_back x F h = ap (of_bits binary32) (sym (written x F h)) ∙ of_bits-to_bits binary32 (narrow x) (narrow_fits x)
