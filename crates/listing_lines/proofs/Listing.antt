-- The lines of the pairs, as a loop writes them: each after those of the pairs before.
use mathlib.Core.Path.{◌≡◌, refl, sym, ap, ◌∙◌}
use Prim.Native.Nat.{ℕ, zero, suc, ◌+◌, ◌^◌, ◌≤◌, ◌<◌, min}
use native.Mathlib.Numerals.{add-one}
use native.Mathlib.Omega.{arith}
use mathlib.Core.List.{List, [], ◌∷◌, ◌++◌, append-nil, append_assoc}
use lib.Ieee.{Float, binary64, to_bits}
use lib.ListN.{length, get_or, take, drop, replicate, length-append}
use lib.Seq.{take-nil, drop-nil, drop-cons}
use Rattle.text.specs.Text.{ascii}
use Rattle.listing_lines.specs.Lines.{decimal, line, mass_text, bits_text, pair_lines, scan_lines}
use Rattle.listing_lines.specs.Internal.{Appends}
use Rattle.listing_lines.proofs.Digits.{hexadecimal_length}
use Rattle.listing_lines.proofs.Places.{append_then, append_front}
use Rattle.listing_lines.proofs.Room.{numbered}

-- the line of the i-th pair. The lists have one, so d does not matter
abbrev pub line_at : List Float → List Float → ℕ → Float → List ℕ
line_at mz intensity i d = line (mass_text (get_or mz i d) ∷ bits_text (get_or intensity i d) ∷ [])

-- the lines of the first i pairs
abbrev pub lines_to : List Float → List Float → ℕ → List ℕ
lines_to mz intensity i = pair_lines (take i mz) (take i intensity)

lines_more : (mz intensity : List Float) (i : ℕ) (d : Float) → i < length mz → i < length intensity
    → lines_to mz intensity (suc i) ≡ lines_to mz intensity i ++ line_at mz intensity i d
lines_more [] intensity i d h k = absurd (omega arith)
lines_more (m ∷ mz) [] i d h k = absurd (omega arith)
lines_more (m ∷ mz) (x ∷ intensity) zero d h k = append-nil (line (mass_text m ∷ bits_text x ∷ []))
lines_more (m ∷ mz) (x ∷ intensity) (suc i) d h k =
    ap (λ l. line (mass_text m ∷ bits_text x ∷ []) ++ l) (lines_more mz intensity i d (omega arith) (omega arith))
    ∙ sym (append_assoc (line (mass_text m ∷ bits_text x ∷ [])) (lines_to mz intensity i) (line_at mz intensity i d))

lines_all : (mz intensity : List Float) (i : ℕ) → min (length mz) (length intensity) ≤ i → lines_to mz intensity i ≡ pair_lines mz intensity
lines_all [] intensity i h = rw (take-nil i)
lines_all (m ∷ mz) [] zero h = refl
lines_all (m ∷ mz) [] (suc i) h = refl
lines_all (m ∷ mz) (x ∷ intensity) zero h = absurd (omega arith)
lines_all (m ∷ mz) (x ∷ intensity) (suc i) h = ap (λ l. line (mass_text m ∷ bits_text x ∷ []) ++ l) (lines_all mz intensity i (omega arith))

-- a turn of the loop, which started at a place of the slice xs, and its end
pub turn : (mz intensity : List Float) (i : ℕ) (d : Float) {start : ℕ} {xs : List ℕ} {at : ℕ} {X : List ℕ} {next : ℕ} {Y : List ℕ}
    → Appends (lines_to mz intensity i) start xs at X → i < length mz → i < length intensity → Appends (line_at mz intensity i d) at X next Y
    → Appends (lines_to mz intensity (i + 1)) start xs next Y
turn mz intensity i d p h k q = rw (add-one i, lines_more mz intensity i d h k) (append_then p q)

-- the lines of the pairs from the i-th on, for a loop that adds up their lengths
abbrev pub lines_from : List Float → List Float → ℕ → List ℕ
lines_from mz intensity i = pair_lines (drop i mz) (drop i intensity)

pub size_turn : (mz intensity : List Float) (i : ℕ) (d : Float) {n : ℕ} → n ≡ length (mass_text (get_or mz i d)) → i < length mz → i < length intensity
    → length (lines_from mz intensity i) ≡ n + 18 + length (lines_from mz intensity (i + 1))
size_turn mz intensity i d e h k =
    let sixteen = hexadecimal_length 16 (to_bits binary64 (get_or intensity i d)) in
    rw (drop-cons mz i d h, drop-cons intensity i d k, add-one) (simp length-append (omega arith))

pub size_end : (mz intensity : List Float) (i : ℕ) → min (length mz) (length intensity) ≤ i → length (lines_from mz intensity i) ≡ 0
size_end [] intensity i h = rw (drop-nil i)
size_end (m ∷ mz) [] zero h = refl
size_end (m ∷ mz) [] (suc i) h = none (drop i mz)
  where
    none : (l : List Float) → length (pair_lines l []) ≡ 0
    none [] = refl
    none (x ∷ xs) = refl
size_end (m ∷ mz) (x ∷ intensity) zero h = absurd (omega arith)
size_end (m ∷ mz) (x ∷ intensity) (suc i) h = size_end mz intensity i (omega arith)

pub end : (mz intensity : List Float) (i : ℕ) {start : ℕ} {xs : List ℕ} {at : ℕ} {X : List ℕ}
    → Appends (lines_to mz intensity i) start xs at X → min (length mz) (length intensity) ≤ i → Appends (pair_lines mz intensity) start xs at X
end mz intensity i p h = rw (← lines_all mz intensity i h) p

-- the first line has the count of pairs
pub with_count : (number coefficients : ℕ) (mz intensity : List Float) (pairs : ℕ) → pairs ≡ min (length mz) (length intensity)
    → line (ascii "S" ∷ decimal number ∷ decimal pairs ∷ decimal coefficients ∷ []) ++ pair_lines mz intensity ≡ scan_lines number coefficients mz intensity
unfolding scan_lines
with_count number coefficients mz intensity pairs e = rw e

-- and its length is known before anything is written: it was made in an array
pub first_size : (number coefficients : ℕ) (mz intensity : List Float) (pairs : ℕ) → pairs ≡ min (length mz) (length intensity)
    → {n : ℕ} {X : List ℕ} → Appends (line (ascii "S" ∷ decimal number ∷ decimal pairs ∷ decimal coefficients ∷ [])) 0 (replicate 64 0) n X
    → number < 2 ^ 32 → pairs < 2 ^ 64 → coefficients < 2 ^ 64
    → n + length (lines_from mz intensity 0) ≡ length (scan_lines number coefficients mz intensity)
first_size number coefficients mz intensity pairs e p a b c =
    rw (← with_count number coefficients mz intensity pairs e, length-append) (ap (λ k. k + length (pair_lines mz intensity)) (append_front p (numbered 83 number pairs coefficients a b c)).0)
