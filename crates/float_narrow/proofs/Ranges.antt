-- `narrow_bits` in each of its four ranges of the field, and how large it can be.
use mathlib.Core.Path.{◌≡◌, sym}
use mathlib.Core.Bool.{Bool, true, false, not}
use Prim.Native.Nat.{ℕ, ◌+◌, ◌-◌, ◌*◌, ◌/◌, ◌%◌, ◌^◌, ◌≤◌, ◌<◌, compare}
use native.Mathlib.Nat.{le_trans, le_of_eq, lt_of_lt_of_le, mod-lt, div-lt_iff_lt-mul}
use native.Mathlib.Omega.{arith}
use lib.Dec.{T, ltb, ltb→lt, nltb→le, lit≤}
use lib.Pow.{pow-add, pow_pos, pow_mono}
use lib.Ieee.Fits.{nearest-le}
use Rattle.float_bits.specs.Rounding.{nearest_half_even}
use Rattle.float_bits.proofs.Rounding.{half_even_is}
use borrow.Author.Tests.{lt-ltb, le-ltb}
use Rattle.float_narrow.specs.Internal.{narrow_bits}

-- what is kept of 53 digits after 29 or more are dropped
pub kept_most : (t q : ℕ) → 29 ≤ t → q < 2 ^ 53 → nearest_half_even q (2 ^ t) ≤ 2 ^ 24
kept_most t q h l =
    rw (half_even_is q (2 ^ t)) (le_trans (nearest-le (q / 2 ^ t) (compare (q % 2 ^ t * 2) (2 ^ t)))
    ((div-lt_iff_lt-mul (pow_pos t)).1 (lt_of_lt_of_le l (le_trans (pow_mono (more h)) (le_of_eq (pow-add 2 24 t))))))
  where
    more : 29 ≤ t → 53 ≤ 24 + t
    more k = omega arith

module _ (r : ℕ) where
  abbrev e : ℕ
  e = r / 2 ^ 52

  abbrev q : ℕ
  q = 2 ^ 52 + r % 2 ^ 52

  pub bits_none : e < 872 → 0 ≡ narrow_bits r
  unfolding narrow_bits
  bits_none h = simp (lt-ltb e 872 h)

  pub bits_infinite : 872 ≤ e → 1150 < e → 0x7f80_0000 ≡ narrow_bits r
  unfolding narrow_bits
  bits_infinite g h = simp (le-ltb e 872 g, lt-ltb 1150 e h)

  pub bits_subnormal : 872 ≤ e → e ≤ 1150 → e < 897 → nearest_half_even q (2 ^ (926 - e)) ≡ narrow_bits r
  unfolding narrow_bits
  bits_subnormal g h k = simp (le-ltb e 872 g, le-ltb 1150 e h, lt-ltb e 897 k)

  pub bits_normal : 872 ≤ e → e ≤ 1150 → 897 ≤ e → (e - 897) * 0x80_0000 + nearest_half_even q (2 ^ 29) ≡ narrow_bits r
  unfolding narrow_bits
  bits_normal g h k = simp (le-ltb e 872 g, le-ltb 1150 e h, le-ltb e 897 k)

  pub digits_lt : q < 2 ^ 53
  digits_lt = with_lead (mod-lt r (pow_pos 52))
    where
      with_lead : r % 2 ^ 52 < 2 ^ 52 → 2 ^ 52 + r % 2 ^ 52 < 2 ^ 53
      with_lead h = omega arith

  pub bits_most : narrow_bits r ≤ 0x7f80_0000
  bits_most = go (ltb e 872) (ltb 1150 e) (ltb e 897) (ltb→lt e 872) (nltb→le e 872) (ltb→lt 1150 e) (nltb→le 1150 e) (ltb→lt e 897) (nltb→le e 897)
    where
      far : (i : ℕ) → i < 897 → 29 ≤ 926 - i
      far i h = omega arith

      small : (k : ℕ) → k ≤ 16777216 → k ≤ 2139095040
      small k h = omega arith

      large : (i k : ℕ) → i ≤ 1150 → k ≤ 16777216 → (i - 897) * 8388608 + k ≤ 2139095040
      large i k h l = omega arith

      go : (t u v : Bool) → (T t → e < 872) → (T (not t) → 872 ≤ e) → (T u → 1150 < e) → (T (not u) → e ≤ 1150) → (T v → e < 897) → (T (not v) → 897 ≤ e) → narrow_bits r ≤ 0x7f80_0000
      go true u v a a' b b' c c' = le_trans (le_of_eq (sym (bits_none (a tt)))) (lit≤ tt)
      go false true v a a' b b' c c' = le_of_eq (sym (bits_infinite (a' tt) (b tt)))
      go false false true a a' b b' c c' = le_trans (le_of_eq (sym (bits_subnormal (a' tt) (b' tt) (c tt)))) (small _ (kept_most (926 - e) q (far e (c tt)) digits_lt))
      go false false false a a' b b' c c' = le_trans (le_of_eq (sym (bits_normal (a' tt) (b' tt) (c' tt)))) (large e _ (b' tt) (kept_most 29 q (lit≤ tt) digits_lt))

pub ruleset ranges = (bits_none, bits_infinite, bits_subnormal, bits_normal)
