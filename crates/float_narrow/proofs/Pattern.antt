-- The pattern of a rounded fraction, in either format: with `drop` digits dropped and the number `kept` kept, it is
-- drop * hid + kept, and an infinity's from there on.
use mathlib.Core.Path.{◌≡◌, sym, ap, ◌∙◌, subst}
use mathlib.Core.Logic.{◌⊎◌, inl, inr}
use mathlib.Core.Bool.{Bool, true, false, not, cond}
use Prim.Native.Nat.{ℕ, zero, suc, ◌+◌, ◌-◌, ◌*◌, ◌/◌, ◌%◌, ◌^◌, ◌≤◌, ◌<◌, compare}
use native.Mathlib.Nat.{le_trans, le_of_eq, lt_of_lt_of_le, lt_of_le_of_lt, le_antisymm, eq-or-lt_of_le, not-le_of_lt, mul-one, mul_comm, mul_assoc, mul-le-mul_right, mul-div_cancel, pow-succ', div-div-eq-div-mul, le-div_iff_mul-le, div-one, add_assoc, suc-mul, le_refl}
use native.Mathlib.Omega.{arith}
use lib.Dec.{T, ltb, ltb→lt, nltb→le}
use lib.Arith.{le→nltb}
use lib.Pow.{pow-add, pow_pos, shl_lt}
use lib.Ieee.{Float, nan, inf, fin, Format, prec, emax, low, hid, ones, top, up, down, size, units, round, to_bits}
use lib.Ieee.Digits.{size-lt, size-le, size_reaches}
use lib.Ieee.Fits.{down_pos, kept-lt, nearest-le, round_is, two, two-le_pos}
use lib.Ieee.Bits.{cond_no}
use lib.Ieee.Exact.{HasValue, units_val}
use lib.Ieee.Nearest.{closest, nearest-ge}
use lib.Ieee.Order.{drop, kept}
use Rattle.float_bits.proofs.Fields.{pow_lt_back}

-- ---- by its size in units of the smallest value, the pattern of a finite value
pub to_bits-of : (f : Format) (x : Float) (s : Bool) (a : ℕ) → HasValue x s a (2 ^ low f) → to_bits f x ≡ cond s (top f) 0 + ((size a - prec f) * hid f + a / 2 ^ (size a - prec f))
unfolding to_bits
to_bits-of f nan s a h = absurd h
to_bits-of f (inf t) s a h = absurd h
to_bits-of f (fin t m e) s a h =
    let n_is : m * up e * 2 ^ low f / down e ≡ a = ap (λ (k : ℕ). k / down e) h.1 ∙ mul-div_cancel a (down_pos e) in
    ap (λ (k : ℕ). cond t (top f) 0 + (size k - prec f) * hid f + k / 2 ^ (size k - prec f)) n_is
    ∙ ap (λ (u : Bool). cond u (top f) 0 + (size a - prec f) * hid f + a / 2 ^ (size a - prec f)) h.0
    ∙ add_assoc (cond s (top f) 0) ((size a - prec f) * hid f) (a / 2 ^ (size a - prec f))

-- ---- the pattern of c * 2 ^ j units, for a number c of p digits, or of fewer and j = 0
abbrev pattern : ℕ → ℕ → ℕ
pattern p a = (size a - p) * 2 ^ (p - 1) + a / 2 ^ (size a - p)

pub size_exact : (a n : ℕ) → 2 ^ a ≤ n → n < 2 ^ suc a → size n ≡ suc a
size_exact a n lo hi = le_antisymm (size-le n (suc a) hi) (pow_lt_back a (size n) (lt_of_le_of_lt lo (size-lt n)))

full : (p c j : ℕ) → 0 < p → 2 ^ (p - 1) ≤ c → c < 2 ^ p → pattern p (c * 2 ^ j) ≡ j * 2 ^ (p - 1) + c
full p c j P lo hi =
    let a = c * 2 ^ j in
    let z : size a ≡ suc (p - 1 + j) =
    size_exact (p - 1 + j) a
    (le_trans (le_of_eq (pow-add 2 (p - 1) j)) (mul-le-mul_right (2 ^ j) lo))
    (lt_of_lt_of_le (shl_lt p j hi) (le_of_eq (ap (λ (k : ℕ). 2 ^ k) (same p j P)))) in
    ap (λ (k : ℕ). k * 2 ^ (p - 1) + a / 2 ^ k) (ap (λ (k : ℕ). k - p) z ∙ less p j P)
    ∙ ap (λ (k : ℕ). j * 2 ^ (p - 1) + k) (mul-div_cancel c (pow_pos j))
  where
    same : (p j : ℕ) → 0 < p → p + j ≡ suc (p - 1 + j)
    same p j P = omega arith

    less : (p j : ℕ) → 0 < p → suc (p - 1 + j) - p ≡ j
    less p j P = omega arith

short : (p c : ℕ) → 0 < p → c < 2 ^ (p - 1) → pattern p (c * 2 ^ 0) ≡ 0 * 2 ^ (p - 1) + c
short p c P h =
    let z : size (c * 2 ^ 0) - p ≡ 0 = none (size (c * 2 ^ 0)) p (size-le (c * 2 ^ 0) (p - 1) (subst (λ (k : ℕ). k < 2 ^ (p - 1)) (sym (mul-one c)) h)) in
    ap (λ (k : ℕ). k * 2 ^ (p - 1) + c * 2 ^ 0 / 2 ^ k) z ∙ ap (λ (k : ℕ). 0 * 2 ^ (p - 1) + k) (div-one (c * 2 ^ 0) ∙ mul-one c)
  where
    none : (z p : ℕ) → z ≤ p - 1 → z - p ≡ 0
    none z p h = omega arith

-- rounding up can carry to 2 ^ p, which is written as 2 ^ (p - 1) with one more zero
carried : (p j : ℕ) → 0 < p → pattern p (2 ^ p * 2 ^ j) ≡ j * 2 ^ (p - 1) + 2 ^ p
carried p j P =
    let h = 2 ^ (p - 1) in
    let twice : 2 ^ p ≡ 2 * h = ap (λ (k : ℕ). 2 ^ k) (sym (whole p P)) ∙ pow-succ' 2 (p - 1) in
    let moved : 2 ^ p * 2 ^ j ≡ h * 2 ^ suc j = ap (λ (k : ℕ). k * 2 ^ j) (twice ∙ mul_comm 2 h) ∙ mul_assoc h 2 (2 ^ j) ∙ ap (λ (k : ℕ). h * k) (sym (pow-succ' 2 j)) in
    ap (pattern p) moved
    ∙ full p h (suc j) P (le_refl h) (subst (λ (k : ℕ). h < k) (sym twice) (more h (pow_pos (p - 1))))
    ∙ ap (λ (k : ℕ). k + h) (suc-mul j h)
    ∙ add_assoc (j * h) h h
    ∙ ap (λ (k : ℕ). j * h + k) (double h ∙ sym twice)
  where
    whole : (p : ℕ) → 0 < p → suc (p - 1) ≡ p
    whole p P = omega arith

    more : (h : ℕ) → 0 < h → h < 2 * h
    more h H = omega arith

    double : (h : ℕ) → h + h ≡ 2 * h
    double h = omega arith

pattern_is : (p c j : ℕ) → 0 < p → c ≤ 2 ^ p → (0 < j → 2 ^ (p - 1) ≤ c) → pattern p (c * 2 ^ j) ≡ j * 2 ^ (p - 1) + c
pattern_is p c j P hi lo = go (eq-or-lt_of_le hi)
  where
    low : (t : Bool) → (T t → c < 2 ^ (p - 1)) → (T (not t) → 2 ^ (p - 1) ≤ c) → c < 2 ^ p → (i : ℕ) → (0 < i → 2 ^ (p - 1) ≤ c) → pattern p (c * 2 ^ i) ≡ i * 2 ^ (p - 1) + c
    low true a b l zero g = short p c P (a tt)
    low true a b l (suc i) g = absurd (not-le_of_lt (a tt) (g (pos_suc i)))
      where
        pos_suc : (i : ℕ) → 0 < suc i
        pos_suc i = omega arith
    low false a b l i g = full p c i P (b tt) l

    go : (c ≡ 2 ^ p) ⊎ (c < 2 ^ p) → pattern p (c * 2 ^ j) ≡ j * 2 ^ (p - 1) + c
    go (inl e) = subst (λ (k : ℕ). pattern p (k * 2 ^ j) ≡ j * 2 ^ (p - 1) + k) (sym e) (carried p j P)
    go (inr l) = low (ltb c (2 ^ (p - 1))) (ltb→lt c (2 ^ (p - 1))) (nltb→le c (2 ^ (p - 1))) l j lo

-- ---- what `round` keeps
pub kept_le : (p n den : ℕ) → kept p n den ≤ 2 ^ p
kept_le p n den =
    let u = den * 2 ^ drop p n den in
    le_trans (nearest-le (n / u) (compare (n % u * 2) u)) (subst (λ (x : ℕ). x < 2 ^ p) (div-div-eq-div-mul n den (2 ^ drop p n den)) (kept-lt p (n / den)))

pub kept_ge : (p n den : ℕ) → 0 < p → 0 < drop p n den → 2 ^ (p - 1) ≤ kept p n den
kept_ge p n den P K =
    let k = drop p n den in
    let u = den * 2 ^ k in
    let w = n / den in
    le_trans
    (subst (λ (x : ℕ). 2 ^ (p - 1) ≤ x) (div-div-eq-div-mul n den (2 ^ k))
    ((le-div_iff_mul-le (pow_pos k)).1 (le_trans (le_of_eq (sym (pow-add 2 (p - 1) k))) (size_reaches w (p - 1 + k) (within (size w) p P K)))))
    (nearest-ge (n / u) (compare (n % u * 2) u))
  where
    within : (z p : ℕ) → 0 < p → 0 < z - p → p - 1 + (z - p) < z
    within z p P h = omega arith

-- ---- the pattern of `round f s num den`, from what is dropped and kept
module _ (f : Format) (s : Bool) (num den k Q : ℕ) (k-is : drop (prec f) (num * 2 ^ low f) den ≡ k) (Q-is : closest (num * 2 ^ low f) (den * 2 ^ k) ≡ Q) where
  pub rounded : round f s num den ≡ units f s Q k
  rounded =
      round_is f s num den
      ∙ ap (λ (j : ℕ). units f s (closest (num * 2 ^ low f) (den * 2 ^ j)) j) k-is
      ∙ ap (λ (c : ℕ). units f s c k) Q-is

  kept_is : kept (prec f) (num * 2 ^ low f) den ≡ Q
  kept_is = ap (λ (j : ℕ). closest (num * 2 ^ low f) (den * 2 ^ j)) k-is ∙ Q-is

  pub most_kept : Q ≤ 2 ^ prec f
  most_kept = subst (λ (c : ℕ). c ≤ 2 ^ prec f) kept_is (kept_le (prec f) (num * 2 ^ low f) den)

  pub least_kept : 0 < k → 2 ^ (prec f - 1) ≤ Q
  least_kept h = subst (λ (c : ℕ). 2 ^ (prec f - 1) ≤ c) kept_is (kept_ge (prec f) (num * 2 ^ low f) den (two-le_pos (prec f) (two f)) (subst (λ (j : ℕ). 0 < j) (sym k-is) h))

  pub in_range : Q * 2 ^ k < 2 ^ (low f + suc (emax f)) → to_bits f (round f s num den) ≡ cond s (top f) 0 + (k * hid f + Q)
  in_range h =
      ap (to_bits f) rounded
      ∙ to_bits-of f (units f s Q k) s (Q * 2 ^ k) (units_val f s Q k h)
      ∙ ap (λ (c : ℕ). cond s (top f) 0 + c) (pattern_is (prec f) Q k (two-le_pos (prec f) (two f)) most_kept least_kept)

  pub past_range : 2 ^ (low f + suc (emax f)) ≤ Q * 2 ^ k → to_bits f (round f s num den) ≡ cond s (top f) 0 + ones f * hid f
  unfolding units to_bits
  past_range h = ap (to_bits f) (rounded ∙ cond_no (ltb (Q * 2 ^ k) (2 ^ (low f + suc (emax f)))) _ (inf s) (le→nltb (Q * 2 ^ k) (2 ^ (low f + suc (emax f))) h))
