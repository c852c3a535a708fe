-- The digits of a number, as they are set from the last on or given by `io::decimal`, are what it is printed in, and text.
use mathlib.Core.Path.{◌≡◌, refl, sym, ap, subst, ◌∙◌}
use mathlib.Core.Bool.{Bool, true, false, cond, false≢true}
use mathlib.Core.List.{List, [], ◌∷◌, ◌++◌, append_assoc, append-nil}
use Prim.Native.Nat.{ℕ, zero, suc, ◌+◌, ◌-◌, ◌/◌, ◌%◌, ◌^◌, ◌≤◌, ◌<◌}
use native.Mathlib.Omega.{arith}
use native.Mathlib.Nat.{pow-suc, div-lt_iff_lt-mul, le-div_iff_mul-le, mod-lt}
use lib.Dec.{T, eqb, eqb→eq, ltb}
use borrow.Author.Tests.{lt-ltb}
use lib.ListN.{length, replicate, set, take, drop, take-append-drop}
use Rattle.std.specs.Str.{IsUtf8, IsAscii}
use Rattle.std.specs.Fmt.{decimal, digits, digit_glyph, digits_onto, padded_integral, char_count}
use Rattle.std.proofs.Math.Nat.{one-le-pow}
use Rattle.std.proofs.lemmas.Fmt.{hex_byte, decimal_step, decimal_digit, IsAscii-decimal}
use lib.Seq.{take-set-lt}
use Rattle.std.proofs.lemmas.List.{replicate_more, drop-set, length-take-le, take-take}
use Rattle.std.proofs.lemmas.Str.{IsUtf8-nil, IsUtf8-from_ascii, IsUtf8-append}
use Rattle.io.specs.Digits.{last_digits, hex_digit_ascii, IsDigitCount}
use Rattle.probe_text.specs.Answers.{hex_digits, hex_bytes, elements}

-- no digits but zeros
zeros : (width : ℕ) → last_digits 16 width 0 ≡ replicate width 48
zeros zero = refl
zeros (suc width) = let one : width + 1 ≡ suc width = omega arith in
    ap (λ ds. ds ++ 48 ∷ []) (zeros width) ∙ replicate_more width 48 ∙ ap (λ n. replicate n 48) one

false-is : (m : ℕ) → m ≡ 0 → eqb m 0 ≡ false → ⊥
false-is m is e = absurd (false≢true (sym e ∙ ap (λ k. eqb k 0) is))

-- digits after the zeros that they lack at a width
abbrev with_zeros : ℕ → List ℕ → List ℕ
with_zeros width ds = replicate (width - length ds) 48 ++ ds

padded_onto : (width k n : ℕ) (acc : List ℕ) → 0 < width → width ≤ k → n < 16 ^ width
    → with_zeros (width + length acc) (digits_onto k 16 false n acc) ≡ last_digits 16 width n ++ acc
padded_onto zero k n acc some room small = absurd (omega arith)
padded_onto (suc width) zero n acc some room small = absurd (omega arith)
padded_onto (suc width) (suc k) n acc some room small = go (eqb (n / 16) 0) refl (λ wide less. padded_onto width k (n / 16) (digit_glyph false (n % 16) ∷ acc) wide (omega arith) less)
  where
    low : List ℕ
    low = digit_glyph false (n % 16) ∷ acc

    by_test : (t : Bool) → eqb (n / 16) 0 ≡ t
        → with_zeros (suc width + length acc) (digits_onto (suc k) 16 false n acc) ≡ with_zeros (suc width + length acc) (cond t low (digits_onto k 16 false (n / 16) low))
    by_test t e = ap (λ (b : Bool). with_zeros (suc width + length acc) (cond b low (digits_onto k 16 false (n / 16) low))) e

    wide : (w : ℕ) → (n / 16 ≡ 0 → ⊥) → n < 16 ^ suc w → 0 < w
    wide zero more h = absurd (omega (arith, more))
    wide (suc w) more h = omega arith

    front : (ds : List ℕ) → ds ++ low ≡ (ds ++ digit_glyph false (n % 16) ∷ []) ++ acc
    front ds = sym (append_assoc ds (digit_glyph false (n % 16) ∷ []) acc)

    go : (t : Bool) → eqb (n / 16) 0 ≡ t
        → (0 < width → n / 16 < 16 ^ width → with_zeros (width + length low) (digits_onto k 16 false (n / 16) low) ≡ last_digits 16 width (n / 16) ++ low)
        → with_zeros (suc width + length acc) (digits_onto (suc k) 16 false n acc) ≡ last_digits 16 (suc width) n ++ acc
    go true e before =
        let high : n / 16 ≡ 0 = eqb→eq (n / 16) 0 (subst T (sym e) tt) in
        let gap : suc width + length acc - length low ≡ width = omega arith in
        by_test true e ∙ ap (λ j. replicate j 48 ++ low) gap
        ∙ ap (λ ds. ds ++ low) (sym (zeros width) ∙ ap (last_digits 16 width) (sym high)) ∙ front (last_digits 16 width (n / 16))
    go false e before =
        let more : n / 16 ≡ 0 → ⊥ = λ h. false-is (n / 16) h e in
        let less : n / 16 < 16 ^ width = (div-lt_iff_lt-mul (omega arith)).1 (omega (arith, pow-suc 16 width)) in
        let longer : suc width + length acc ≡ width + length low = omega arith in
        by_test false e ∙ ap (λ j. with_zeros j (digits_onto k 16 false (n / 16) low)) longer
        ∙ before (wide width more small) less ∙ front (last_digits 16 width (n / 16))

-- as many digits as the number has none more of are what it is printed in
hex_digits_are : (width n : ℕ) → 0 < width → width ≤ 64 → n < 16 ^ width → hex_digits width n ≡ last_digits 16 width n
unfolding padded_integral char_count digits
hex_digits_are width n some room small =
    let alone : width ≡ width + length {A = ℕ} [] = omega arith in
    let gap : width - length (digits_onto 64 16 false n []) - 0 - 0 ≡ width - length (digits_onto 64 16 false n []) = omega arith in
    ap (λ j. replicate j 48 ++ (digits_onto 64 16 false n [] ++ [])) gap
    ∙ ap (λ ds. replicate (width - length (digits_onto 64 16 false n [])) 48 ++ ds) (append-nil (digits_onto 64 16 false n []))
    ∙ ap (λ w. with_zeros w (digits_onto 64 16 false n [])) alone ∙ padded_onto width 64 n [] some room small ∙ append-nil (last_digits 16 width n)

pub byte_is : (byte : ℕ) → byte < 256 → hex_digits 2 byte ≡ digit_glyph false (byte / 16) ∷ digit_glyph false (byte % 16) ∷ []
byte_is byte small = hex_byte false byte small

-- the last digit that is not set yet, set before those that are
pub digit_set : (row : List ℕ) (at left width rest digit : ℕ) → 0 < left → left ≤ width → at + width < length row → digit ≡ hex_digit_ascii (rest % 16)
    → last_digits 16 (left - 1) (rest / 16) ++ drop (at + (left - 1) + 1) (take (at + width + 1) (set row (at + 1 + (left - 1)) digit))
    ≡ last_digits 16 left rest ++ drop (at + left + 1) (take (at + width + 1) row)
digit_set row at zero width rest digit some least room is = absurd (omega arith)
digit_set row at (suc k) width rest digit some least room is =
    let front = last_digits 16 k (rest / 16) in
    let all = take (at + width + 1) row in
    let before : suc k - 1 ≡ k = omega arith in
    let same : at + 1 + k ≡ at + k + 1 = omega arith in
    let next : at + k + 1 + 1 ≡ at + suc k + 1 = omega arith in
    let long : length all ≡ at + width + 1 = length-take-le (at + width + 1) row (omega arith) in
    ap (λ j. last_digits 16 j (rest / 16) ++ drop (at + j + 1) (take (at + width + 1) (set row (at + 1 + j) digit))) before
    ∙ ap (λ j. front ++ drop (at + k + 1) (take (at + width + 1) (set row j digit))) same
    ∙ ap (λ xs. front ++ drop (at + k + 1) xs) (take-set-lt (at + width + 1) row (at + k + 1) digit (omega arith))
    ∙ ap (λ xs. front ++ xs) (drop-set all (at + k + 1) digit (omega (arith, long)) ∙ ap (λ j. digit ∷ drop j all) next)
    ∙ ap (λ d. front ++ d ∷ drop (at + suc k + 1) all) is ∙ sym (append_assoc front (hex_digit_ascii (rest % 16) ∷ []) (drop (at + suc k + 1) all))

-- where none is left to set, all stand after the space
pub digits_set : (row before : List ℕ) (at left width rest n : ℕ) → 0 < width → width ≤ 16 → n < 16 ^ width → left ≡ 0 → take (at + 1) row ≡ before ++ 32 ∷ []
    → last_digits 16 left rest ++ drop (at + left + 1) (take (at + width + 1) row) ≡ last_digits 16 width n → take (at + width + 1) row ≡ before ++ 32 ∷ hex_digits width n
digits_set row before at (suc left) width rest n some most fits none front digits = absurd (omega arith)
digits_set row before at zero width rest n some most fits none front digits =
    let shorter : take (at + 1) (take (at + width + 1) row) ≡ take (at + 1) row = take-take (at + 1) (at + width + 1) row (omega arith) in
    let same : at + 0 + 1 ≡ at + 1 = omega arith in
    let behind = ap (λ j. drop j (take (at + width + 1) row)) (sym same) ∙ digits ∙ sym (hex_digits_are width n some (omega arith) fits) in
    sym (take-append-drop (at + 1) (take (at + width + 1) row)) ∙ ap (λ xs. xs ++ drop (at + 1) (take (at + width + 1) row)) (shorter ∙ front)
    ∙ ap (λ xs. (before ++ 32 ∷ []) ++ xs) behind ∙ append_assoc before (32 ∷ []) (hex_digits width n)

-- as many decimal digits as the number has are what it is printed in
ascii_is : (d : ℕ) → d < 10 → hex_digit_ascii d ≡ 48 + d
ascii_is d small = ap (λ (b : Bool). cond b (48 + d) (87 + d)) (lt-ltb d 10 small)

pub decimal_is : (k n : ℕ) → n < 2 ^ 64 → IsDigitCount 10 1 n k → last_digits 10 k n ≡ decimal n
decimal_is zero n fits h = absurd (omega (arith, h.0))
decimal_is (suc zero) n fits h =
    let small : n < 10 = omega (arith, h.1) in
    let same : n % 10 ≡ n = omega arith in
    rw (same, ascii_is n small) (sym (decimal_digit n small))
decimal_is (suc (suc k)) n fits h =
    let some : 0 < 10 = omega arith in
    let before : suc (suc k) - 1 ≡ suc k = omega arith in
    let large : 10 ^ suc k ≤ n = subst (λ j. 10 ^ j ≤ n) before (h.2 (omega arith)) in
    let more : 10 ≤ n = omega (arith, pow-suc 10 k, one-le-pow k 10 some, large) in
    let less : n / 10 < 10 ^ suc k = (div-lt_iff_lt-mul some).1 (omega (arith, pow-suc 10 (suc k), h.1)) in
    let last : suc k - 1 ≡ k = omega arith in
    let least : 1 < suc k → 10 ^ (suc k - 1) ≤ n / 10 = λ i. subst (λ j. 10 ^ j ≤ n / 10) (sym last) ((le-div_iff_mul-le some).1 (omega (arith, pow-suc 10 k, large))) in
    let digit : n % 10 < 10 = mod-lt n some in
    ap (λ ds. ds ++ hex_digit_ascii (n % 10) ∷ []) (decimal_is (suc k) (n / 10) (omega arith) (omega arith, less, least))
    ∙ ap (λ d. decimal (n / 10) ++ d ∷ []) (ascii_is (n % 10) digit) ∙ sym (decimal_step n more fits)

-- ---- what is printed is text
utf8_byte : (b : ℕ) → b < 128 → IsUtf8 (b ∷ [])
utf8_byte b small = IsUtf8-from_ascii (b ∷ []) ascii
  where
    ascii : IsAscii (b ∷ [])
    ascii zero = small
    ascii (suc i) = omega arith

utf8_glyph : (n : ℕ) → IsUtf8 (digit_glyph false (n % 16) ∷ [])
utf8_glyph n = utf8_byte (digit_glyph false (n % 16)) (by (ltb (n % 16) 10))
  where
    low : n % 16 < 16
    low = let some : 0 < 16 = omega arith in mod-lt n some

    by : (a : Bool) → cond a (48 + n % 16) (87 + n % 16) < 128
    by true = omega (arith, low)
    by false = omega (arith, low)

utf8_onto : (k n : ℕ) (acc : List ℕ) → IsUtf8 acc → IsUtf8 (digits_onto k 16 false n acc)
utf8_onto zero n acc u = u
utf8_onto (suc k) n acc u =
    let more = IsUtf8-append (digit_glyph false (n % 16) ∷ []) acc (utf8_glyph n) u in
    either (eqb (n / 16) 0) _ _ more (utf8_onto k (n / 16) _ more)
  where
    either : (b : Bool) (xs ys : List ℕ) → IsUtf8 xs → IsUtf8 ys → IsUtf8 (cond b xs ys)
    either true xs ys p q = p
    either false xs ys p q = q

utf8_zeros : (k : ℕ) → IsUtf8 (replicate k 48)
utf8_zeros zero = IsUtf8-nil
utf8_zeros (suc k) = IsUtf8-append (48 ∷ []) (replicate k 48) (utf8_byte 48 (omega arith)) (utf8_zeros k)

pub utf8_hex : (width n : ℕ) → IsUtf8 (hex_digits width n)
unfolding padded_integral char_count digits
utf8_hex width n =
    let ds = utf8_onto 64 n [] IsUtf8-nil in
    IsUtf8-append (replicate (width - length (digits_onto 64 16 false n []) - 0 - 0) 48) (digits_onto 64 16 false n [] ++ [])
    (utf8_zeros _) (IsUtf8-append (digits_onto 64 16 false n []) [] ds IsUtf8-nil)

utf8_field : (width n : ℕ) → IsUtf8 (32 ∷ hex_digits width n)
utf8_field width n = IsUtf8-append (32 ∷ []) (hex_digits width n) (utf8_byte 32 (omega arith)) (utf8_hex width n)

utf8_elements : {A : Type 0} (width : ℕ) (bits : A → ℕ) (xs : List A) → IsUtf8 (elements width bits xs)
utf8_elements width bits [] = IsUtf8-nil
utf8_elements width bits (x ∷ xs) = IsUtf8-append (32 ∷ hex_digits width (bits x)) (elements width bits xs) (utf8_field width (bits x)) (utf8_elements width bits xs)

utf8_bytes : (run : List ℕ) → IsUtf8 (hex_bytes run)
utf8_bytes [] = IsUtf8-nil
utf8_bytes (b ∷ run) = IsUtf8-append (hex_digits 2 b) (hex_bytes run) (utf8_hex 2 b) (utf8_bytes run)

-- text with these at its end
module _ (old new : List ℕ) (text : IsUtf8 old) where
  after : (more : List ℕ) → IsUtf8 more → new ≡ old ++ more → IsUtf8 new
  after more u e = subst IsUtf8 (sym e) (IsUtf8-append old more text u)

  pub text_after_field : (width n : ℕ) → new ≡ old ++ 32 ∷ hex_digits width n → IsUtf8 new
  text_after_field width n = after (32 ∷ hex_digits width n) (utf8_field width n)

  pub text_after_decimal : (n : ℕ) → n < 2 ^ 64 → new ≡ old ++ decimal n → IsUtf8 new
  text_after_decimal n fits = after (decimal n) (IsUtf8-from_ascii (decimal n) (IsAscii-decimal n fits))

  pub text_after_number : (n : ℕ) → n < 2 ^ 64 → new ≡ old ++ 32 ∷ decimal n → IsUtf8 new
  text_after_number n fits = after (32 ∷ decimal n) (IsUtf8-append (32 ∷ []) (decimal n) (utf8_byte 32 (omega arith)) (IsUtf8-from_ascii (decimal n) (IsAscii-decimal n fits)))

  pub text_after_elements : {A : Type 0} (width : ℕ) (bits : A → ℕ) (xs : List A) → new ≡ old ++ elements width bits xs → IsUtf8 new
  text_after_elements width bits xs = after (elements width bits xs) (utf8_elements width bits xs)

  pub text_after_bytes : (run : List ℕ) → new ≡ old ++ hex_bytes run → IsUtf8 new
  text_after_bytes run = after (hex_bytes run) (utf8_bytes run)
