-- Laws of patterns for both formats: which are a NaN's or a finite number's, what `x != x` and `0.0 / 0.0` say, and
-- a pattern without its sign.
use Rattle.std.proofs.Common.{◌≡◌, ℕ, zero, suc, ◌+◌, ◌-◌, ◌*◌, ◌/◌, ◌%◌, ◌<◌, Bool, true, false, cond, not, T, eqb, ltb, leb, sym, refl, ap, ◌∙◌, subst, true≢false, lt_irrefl, mod-lt, mod-eq_of_lt, zero-lt-suc, mul_comm, div-lt_iff_lt-mul, mul-pos, arith, eqb→eq, ltb→lt, lt→ltb, pow_pos}
use native.Mathlib.Nat.{mod-mod_of_dvd, dvd-mul_right}
use lib.Dec.{not_T}
use lib.Ieee.{Float, nan, inf, fin, Format, binary32, binary64, prec, low, hid, ones, top, odd, of_fields, of_bits, to_bits, nan_bits, is_nan, ne, div}
use lib.Ieee.Fits.{eq→eqb}
use lib.Arith.{lt→nleb}
use lib.Ieee.Bits.{is_false, nan_bits_is, nan_bits_above}
use lib.Ieee.Compare.{differs_from_itself}
use lib.Ieee.Scale.{finite}
use Rattle.float_bits.specs.Absolute.{absolute}

-- ---- two tests that say the same
pub same_test : (a b : Bool) → (T a → T b) → (T b → T a) → a ≡ b
same_test true true p q = refl
same_test true false p q = absurd (p tt)
same_test false true p q = absurd (q tt)
same_test false false p q = refl

-- ---- a NaN's pattern
pub nan_above : (f : Format) (b : ℕ) → ltb (ones f * hid f) (b % top f) ≡ is_nan (of_bits f b)
nan_above f b = sym (nan_bits_above f b) ∙ nan_bits_is f b

-- ---- a finite number's pattern
odd_finite : (d : ℕ) (s : Bool) (q k l : ℕ) → finite (odd d s q k l) ≡ true
unfolding odd
odd_finite d s zero k l = refl
odd_finite d s (suc q) k l = refl

by_tests : (a b s : Bool) (v : Float) → finite v ≡ true → finite (cond a (cond b (inf s) nan) v) ≡ not a
by_tests true true s v h = refl
by_tests true false s v h = refl
by_tests false b s v h = h

not_top : (x o : ℕ) → x < suc o → not (eqb x o) ≡ ltb x o
not_top x o h = same_test (not (eqb x o)) (ltb x o)
    (λ n. lt→ltb x o (under (λ (e : x ≡ o). nope (eqb x o) n (eq→eqb e))))
    (λ l. not_T (eqb x o) (λ u. lt_irrefl o (subst (λ (k : ℕ). k < o) (eqb→eq x o u) (ltb→lt x o l))))
  where
    under : (x ≡ o → ⊥) → x < o
    under n = omega arith

    nope : (a : Bool) → T (not a) → T a → ⊥
    nope true n t = n
    nope false n t = t

fields_finite : (f : Format) (s : Bool) (x t : ℕ) → x < suc (ones f) → finite (of_fields f s x t) ≡ ltb x (ones f)
unfolding of_fields
fields_finite binary32 s zero t h = odd_finite 24 s t 0 149
fields_finite binary64 s zero t h = odd_finite 53 s t 0 1074
fields_finite f s (suc x) t h = by_tests (eqb (suc x) (ones f)) (eqb t 0) s (odd (prec f) s (hid f + t) x (low f)) (odd_finite (prec f) s (hid f + t) x (low f)) ∙ not_top (suc x) (ones f) h

pub finite_below : (f : Format) (b : ℕ) → ltb (b % top f) (ones f * hid f) ≡ finite (of_bits f b)
unfolding of_bits
finite_below f b =
    let r = b % top f in
    let H : 0 < hid f = pow_pos (prec f - 1) in
    let in_range : r / hid f < suc (ones f) = (div-lt_iff_lt-mul H).1 (subst (λ (k : ℕ). r < k) (mul_comm (hid f) (suc (ones f))) (mod-lt b (mul-pos H (zero-lt-suc (ones f))))) in
    same_test (ltb r (ones f * hid f)) (ltb (r / hid f) (ones f))
    (λ l. lt→ltb (r / hid f) (ones f) ((div-lt_iff_lt-mul H).1 (ltb→lt r (ones f * hid f) l)))
    (λ l. lt→ltb r (ones f * hid f) ((div-lt_iff_lt-mul H).0 (ltb→lt (r / hid f) (ones f) l)))
    ∙ sym (fields_finite f (leb (top f) b) (r / hid f) (b % hid f) in_range)

-- ---- what a program's tests for a NaN say
pub no_nan : (x : Float) → is_nan x ≡ false → T (not (is_nan x))
no_nan x h = subst (λ (a : Bool). T (not a)) (sym h) tt

pub no_nan_bits : (f : Format) (b : ℕ) → is_nan (of_bits f b) ≡ false → T (not (nan_bits f b))
no_nan_bits f b h = subst (λ (a : Bool). T (not a)) (sym (nan_bits_is f b ∙ h)) tt

pub nan_from_is_nan : (x : Float) → is_nan x ≡ true → nan ≡ x
unfolding is_nan
nan_from_is_nan nan h = refl
nan_from_is_nan (inf s) h = absurd (true≢false (sym h))
nan_from_is_nan (fin s m e) h = absurd (true≢false (sym h))

pub differs : (x : Float) → ne x x ≡ true → nan ≡ x
differs x h = sym (differs_from_itself x (subst T (sym h) tt))

pub equals_itself : (x : Float) → ne x x ≡ false → T (not (is_nan x))
unfolding ne is_nan
equals_itself nan h = absurd (true≢false h)
equals_itself (inf s) h = tt
equals_itself (fin s m e) h = tt

-- ---- the NaN of the code, and its pattern
pub zero_by_zero : (f : Format) → div f (of_bits f 0) (of_bits f 0) ≡ nan
unfolding div of_bits
zero_by_zero binary32 = refl
zero_by_zero binary64 = refl

pub to_bits-nan : (f : Format) → to_bits f nan ≡ ones f * hid f + hid f / 2
unfolding to_bits
to_bits-nan f = refl

-- ---- a pattern with its sign off
odd_absolute : (d : ℕ) (s : Bool) (q k l : ℕ) → odd d false q k l ≡ absolute (odd d s q k l)
unfolding odd
odd_absolute d s zero k l = refl
odd_absolute d s (suc q) k l = refl

cond_absolute : (a b s : Bool) (u v : Float) → u ≡ absolute v → cond a (cond b (inf false) nan) u ≡ absolute (cond a (cond b (inf s) nan) v)
cond_absolute true true s u v h = refl
cond_absolute true false s u v h = refl
cond_absolute false b s u v h = h

fields_absolute : (f : Format) (s : Bool) (x t : ℕ) → of_fields f false x t ≡ absolute (of_fields f s x t)
unfolding of_fields
fields_absolute f s zero t = odd_absolute (prec f) s t 0 (low f)
fields_absolute f s (suc x) t = cond_absolute (eqb (suc x) (ones f)) (eqb t 0) s (odd (prec f) false (hid f + t) x (low f)) (odd (prec f) s (hid f + t) x (low f)) (odd_absolute (prec f) s (hid f + t) x (low f))

pub absolute_bits : (f : Format) (b : ℕ) → of_bits f (b % top f) ≡ absolute (of_bits f b)
unfolding of_bits
absolute_bits f b =
    let H : 0 < top f = mul-pos (pow_pos (prec f - 1)) (zero-lt-suc (ones f)) in
    let below : b % top f < top f = mod-lt b H in
    ap (λ (s : Bool). of_fields f s (b % top f % top f / hid f) (b % top f % hid f)) (is_false (leb (top f) (b % top f)) (lt→nleb (top f) (b % top f) below))
    ∙ ap (λ (x : ℕ). of_fields f false (x / hid f) (b % top f % hid f)) (mod-eq_of_lt below)
    ∙ ap (λ (t : ℕ). of_fields f false (b % top f / hid f) t) (mod-mod_of_dvd (hid f) b (dvd-mul_right (hid f) (suc (ones f))))
    ∙ fields_absolute f (leb (top f) b) (b % top f / hid f) (b % hid f)
