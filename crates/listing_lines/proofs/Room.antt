-- How long a text can be: a slice of this many bytes takes all of it.
use mathlib.Core.Path.{◌≡◌}
use mathlib.Core.Bool.{Bool, true, false, ◌&&◌, ◌||◌, cond}
use mathlib.Core.List.{List, [], ◌∷◌}
use Prim.Native.Nat.{ℕ, ◌+◌, ◌*◌, ◌^◌, ◌≤◌, ◌<◌, min}
use native.Mathlib.Nat.{div-lt_iff_lt-mul}
use native.Mathlib.Omega.{arith}
use lib.Dec.{T, ltb, eqb, ltb→lt, eqb→eq, lit<}
use lib.Ieee.{Float, nan, inf, fin, binary64, up, down, of_int, to_bits, lt, eq, le}
use lib.Ieee.Fits.{and_l}
use lib.Ieee.Positive.{den_pos}
use lib.ListN.{length, length-append}
use Rattle.refusal.specs.Outcome.{ok, refused}
use Rattle.refusal.specs.Number.{number as number_of, carried}
use Rattle.refusal.specs.declared.Part.TheVariants.{Header, Index, Event, Data}
use Rattle.refusal.specs.declared.Refusal.{Refusal}
use Rattle.refusal.specs.declared.Refusal.TheVariants.{Short, UnrecognizedScanRecord, InvalidPrecursorMz, BodyTooShort, FlatWord, TooManyScans, NoSuchScan, NoRoom, MassOutOfRange, NotHeld}
use Rattle.float_ten_thousandths.specs.TenThousandths.{scaled, ten_thousandths}
use Rattle.float_bits.specs.Exact.{num, den}
use Rattle.float_bits.specs.Rounding.{nearest_half_up}
use Rattle.float_bits.proofs.Exact.{num_is, den_is}
use Rattle.float_bits.proofs.Rounding.{half_up_is}
use Rattle.listing_lines.specs.Lines.{decimal, line, number_or_dash, mass_text, bits_text, part_in, tray_line, refusal_line, pair_lines, scan_lines}
use Rattle.listing_lines.proofs.Digits.{decimal_length, hexadecimal_length}
use Rattle.float_bits.specs.Numbers.{zero_f, largest_mass}

-- ---- a mass in ten-thousandths has at most 9 digits
at_most : (a b : ℕ) (t : Bool) → T (ltb a b || (eqb a b && t)) → a ≤ b
at_most a b t h = go (ltb a b) (ltb→lt a b) h
  where
    go : (l : Bool) → (T l → a < b) → T (l || (eqb a b && t)) → a ≤ b
    go true below k = let low = below tt in omega arith
    go false below k = let same = eqb→eq a b (and_l (eqb a b) t k) in omega arith

fraction_most : (x : Float) → T (le zero_f x) → T (le x largest_mass) → num x ≤ 50000 * den x
unfolding le lt eq of_int largest_mass
fraction_most nan p q = omega arith
fraction_most (inf s) p q = omega arith
fraction_most (fin true m e) p q =
    let z = eqb→eq (0 * down e) (m * up e * 1) (and_l (eqb (0 * down e) (m * up e * 1)) (eqb (0 * down e) 0) p) in
    rw (num_is (fin true m e), den_is (fin true m e)) (zero_size (m * up e) (down e) z)
  where
    zero_size : (n d : ℕ) → 0 * d ≡ n * 1 → n ≤ 50000 * d
    zero_size n d z = omega arith
fraction_most (fin false m e) p q = rw (num_is (fin false m e), den_is (fin false m e)) (tidy (m * up e) (down e) (at_most (m * up e * 1) (50000 * down e) true q))
  where
    tidy : (n d : ℕ) → n * 1 ≤ 50000 * d → n ≤ 50000 * d
    tidy n d h = omega arith

nearest_most : (n d : ℕ) → 0 < d → n ≤ 50000 * d → nearest_half_up (n * 10000) d < 10 ^ 9
nearest_most n d D h =
    let D2 : 0 < d * 2 = omega arith in
    rw (half_up_is (n * 10000) d D) ((div-lt_iff_lt-mul D2).1 (omega arith))

pub mass_most : (mz : Float) → length (mass_text mz) ≤ 9
unfolding ten_thousandths scaled
mass_most mz = go (le zero_f mz) (le mz largest_mass) (fraction_most mz)
  where
    go : (above below : Bool) → (T above → T below → num mz ≤ 50000 * den mz) → length (number_or_dash (cond (above && below) (ok (nearest_half_up (num mz * 10000) (den mz))) (refused 9 []))) ≤ 9
    go true true h = decimal_length 8 _ (nearest_most (num mz) (den mz) (rw (den_is mz) (den_pos mz)) (h tt tt))
    go true false h = omega arith
    go false below h = omega arith

-- ---- a line's length, by its fields
two_fields : (a b : List ℕ) (m n : ℕ) → length a ≤ m → length b ≤ n → length (line (a ∷ b ∷ [])) ≤ m + n + 2
two_fields a b m n h k = simp length-append (omega arith)

pair_most : (mz intensity : Float) → length (line (mass_text mz ∷ bits_text intensity ∷ [])) ≤ 27
pair_most mz intensity = two_fields (mass_text mz) (bits_text intensity) 9 16 (mass_most mz) (omega (arith, hexadecimal_length 16 (to_bits binary64 intensity)))

pairs_most : (mz intensity : List Float) → length (pair_lines mz intensity) ≤ 27 * length mz
pairs_most [] intensity = omega arith
pairs_most (m ∷ mz) [] = omega arith
pairs_most (m ∷ mz) (x ∷ intensity) = rw length-append (omega (arith, pair_most m x, pairs_most mz intensity))

-- ---- a mark and numbers of at most 10, 20 and 20 digits
small_number : (n : ℕ) → n < 2 ^ 32 → length (decimal n) ≤ 10
small_number n h = decimal_length 9 n (omega arith)

number_most : (n : ℕ) → n < 2 ^ 64 → length (decimal n) ≤ 20
number_most n h = decimal_length 19 n (omega arith)

pub numbered : (mark a b c : ℕ) → a < 2 ^ 32 → b < 2 ^ 64 → c < 2 ^ 64 → length (line ((mark ∷ []) ∷ decimal a ∷ decimal b ∷ decimal c ∷ [])) ≤ 64
numbered mark a b c f g h = simp length-append (omega (arith, small_number a f, number_most b g, number_most c h))

pub tray_room : (version scans : ℕ) → version < 2 ^ 32 → scans < 2 ^ 32 → length (tray_line version scans) ≤ 64
unfolding tray_line
tray_room version scans h k = simp length-append (omega (arith, small_number version h, small_number scans k))

number_small : (refusal : Refusal) → (number_of refusal < 2 ^ 64) × (part_in (number_of refusal) (carried refusal) < 2 ^ 64)
number_small (Short Header) = (lit< tt, lit< tt)
number_small (Short Index) = (lit< tt, lit< tt)
number_small (Short Event) = (lit< tt, lit< tt)
number_small (Short Data) = (lit< tt, lit< tt)
number_small UnrecognizedScanRecord = (lit< tt, lit< tt)
number_small (InvalidPrecursorMz place bits) = (lit< tt, lit< tt)
number_small BodyTooShort = (lit< tt, lit< tt)
number_small FlatWord = (lit< tt, lit< tt)
number_small TooManyScans = (lit< tt, lit< tt)
number_small NoSuchScan = (lit< tt, lit< tt)
number_small NoRoom = (lit< tt, lit< tt)
number_small MassOutOfRange = (lit< tt, lit< tt)
number_small NotHeld = (lit< tt, lit< tt)

pub refusal_room : (number : ℕ) (refusal : Refusal) → number < 2 ^ 32 → length (refusal_line number refusal) ≤ 64
unfolding refusal_line
refusal_room number refusal h = let small = number_small refusal in numbered 88 number (number_of refusal) (part_in (number_of refusal) (carried refusal)) h small.0 small.1

pub scan_room : (number coefficients : ℕ) (mz intensity : List Float) → number < 2 ^ 32 → coefficients < 2 ^ 64 → min (length mz) (length intensity) < 2 ^ 64
    → length (scan_lines number coefficients mz intensity) ≤ 64 + 27 * length mz
unfolding scan_lines
scan_room number coefficients mz intensity h k l =
    rw length-append (omega (arith, numbered 83 number (min (length mz) (length intensity)) coefficients h l k, pairs_most mz intensity))
