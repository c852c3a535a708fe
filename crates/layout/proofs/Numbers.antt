-- A number and its bytes.
use mathlib.Core.Path.{◌≡◌, refl, ap, sym, ◌∙◌}
use Prim.Native.Nat.{ℕ, zero, suc, ◌+◌, ◌*◌, ◌/◌, ◌%◌, ◌^◌, ◌<◌}
use native.Mathlib.Nat.{pow-succ', mod-add-div, mul_assoc, zero-mul, suc-mul}
use native.Mathlib.Omega.{arith}
use mathlib.Core.List.{List, [], ◌∷◌}
use lib.ListN.{length, length-append}
use Rattle.parser.specs.Parser.{little_endian}
use Rattle.parser.specs.LongerBytes.{Bytes}
use Rattle.layout.specs.Layout.{le_bytes, concat}

pub length-le_bytes : (n x : ℕ) → length (le_bytes n x) ≡ n
unfolding le_bytes
length-le_bytes zero x = refl
length-le_bytes (suc n) x = ap suc (length-le_bytes n (x / 256))

-- a number that fits is read back
pub le-le_bytes : (n x : ℕ) → x < 256 ^ n → little_endian (le_bytes n x) ≡ x
unfolding le_bytes
le-le_bytes zero x h = omega arith
le-le_bytes (suc n) x h =
    let p : 256 ^ suc n ≡ 256 * 256 ^ n = pow-succ' 256 n in
    let q : x / 256 < 256 ^ n = omega arith in
    omega (arith, le-le_bytes n (x / 256) q)

-- bytes are those of their number
pub le_bytes-le : (bs : List ℕ) → Bytes bs → le_bytes (length bs) (little_endian bs) ≡ bs
unfolding le_bytes
le_bytes-le [] h = refl
le_bytes-le (b ∷ bs) h =
    let low : b < 256 = h 0 in
    let m : (b + 256 * little_endian bs) % 256 ≡ b = omega arith in
    let d : (b + 256 * little_endian bs) / 256 ≡ little_endian bs = omega arith in
    rw (m, d, le_bytes-le bs (λ i. h (suc i)))

-- the bytes of a number are those of what fits
le_bytes-low : (m x y : ℕ) → le_bytes m (x + 256 ^ m * y) ≡ le_bytes m x
unfolding le_bytes
le_bytes-low zero x y = refl
le_bytes-low (suc m) x y =
    let p : 256 ^ suc m * y ≡ 256 * (256 ^ m * y) = rw (pow-succ', mul_assoc) in
    let a : (x + 256 ^ suc m * y) % 256 ≡ x % 256 = omega arith in
    let b : (x + 256 ^ suc m * y) / 256 ≡ x / 256 + 256 ^ m * y = omega arith in
    rw (a, b, le_bytes-low m (x / 256) y)

pub le_bytes-mod : (m x : ℕ) → le_bytes m (x % 256 ^ m) ≡ le_bytes m x
le_bytes-mod m x = sym (le_bytes-low m (x % 256 ^ m) (x / 256 ^ m)) ∙ ap (le_bytes m) (mod-add-div x (256 ^ m))

-- strings of one length
pub length-concat : {S : Type 0} (n : ℕ) (f : S → List ℕ) → ((x : S) → length (f x) ≡ n) → (xs : List S) → length (concat f xs) ≡ length xs * n
length-concat n f h [] = sym (zero-mul n)
length-concat n f h (x ∷ xs) = length-append (f x) (concat f xs) ∙ omega (arith, h x, length-concat n f h xs, suc-mul (length xs) n)
