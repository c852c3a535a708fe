-- A loop that stores strings of one length, one after the other.
use mathlib.Core.Path.{◌≡◌, refl, sym, ◌∙◌}
use Prim.Native.Nat.{ℕ, suc, ◌+◌, ◌*◌, ◌-◌, ◌%◌, ◌^◌, ◌≤◌, ◌<◌, min}
use native.Mathlib.Nat.{add-mul, one-mul}
use native.Mathlib.Numerals.{add-one}
use native.Mathlib.Omega.{arith}
use mathlib.Core.List.{List, [], ◌∷◌, ◌++◌, append_assoc, append-nil}
use lib.ListN.{length, get_or, take, length-take}
use lib.Seq.{sets, take-suc, take_all, length-sets}
use Rattle.parser.specs.LongerBytes.{Bytes}
use Rattle.layout.specs.Layout.{le_bytes, concat}
use Rattle.layout.proofs.Numbers.{length-concat}
use Rattle.writer.proofs.Stores.{sets_append, sets_saturated}

concat-append : {S : Type 0} (f : S → List ℕ) (xs ys : List S) → concat f (xs ++ ys) ≡ concat f xs ++ concat f ys
concat-append f [] ys = refl
concat-append f (x ∷ xs) ys = rw (concat-append f xs ys, append_assoc)

-- `place` is that of the string i, and all before it are stored
module _ {S : Type 0} (f : S → List ℕ) (n : ℕ) (xs : List S) (out₀ : List ℕ) (at : ℕ) where
  pub record Storing (out : List ℕ) (i place : ℕ) : Type 0 where
    pub stored : out ≡ sets out₀ at (concat f (take i xs))
    pub next : place ≡ min (at + i * n) (2 ^ 64 - 1)
    pub within : i ≤ length xs

  pub storing_none : at < 2 ^ 64 → Storing out₀ 0 at
  storing_none h = record { stored = refl; next = omega arith; within = omega arith }

  pub storing_more : ((x : S) → length (f x) ≡ n) → length out₀ < 2 ^ 64 → (out out' : List ℕ) (i place place' : ℕ) (d : S) → Storing out i place → i < length xs
      → out' ≡ sets out place (f (get_or xs i d)) → place' ≡ min (place + n) (2 ^ 64 - 1) → Storing out' (i + 1) place'
  storing_more size few out out' i place place' d inv h e p =
      let before = concat f (take i xs) in
      let m : (i + 1) * n ≡ i * n + n = rw (add-mul, one-mul) in
      let count : length (take i xs) ≡ i = simp length-take (omega arith) in
      let after : length before ≡ i * n = length-concat n f size (take i xs) ∙ rw count in
      let small : length out < 2 ^ 64 = rw (inv.stored, length-sets out₀ at before) few in
      record {
        stored =
            e
            ∙ rw (inv.next, sets_saturated out (at + i * n) (f (get_or xs i d)) small, inv.stored, add-one i, take-suc xs i d h, concat-append f (take i xs) (get_or xs i d ∷ []), append-nil (f (get_or xs i d)))
            (sym (sets_append out₀ at before (f (get_or xs i d)) ∙ rw after));
        next = omega (arith, inv.next);
        within = omega arith;
      }

  pub storing_all : {out : List ℕ} {i place : ℕ} → Storing out i place → length xs ≤ i → out ≡ sets out₀ at (concat f xs)
  storing_all {out} {i} inv h = inv.stored ∙ rw (take_all i xs h)

-- bytes are strings of one byte
pub concat-bytes : (xs : List ℕ) → Bytes xs → concat (le_bytes 1) xs ≡ xs
unfolding le_bytes
concat-bytes [] h = refl
concat-bytes (x ∷ xs) h =
    let low : x < 256 = h 0 in
    let e : x % 256 ≡ x = omega arith in
    rw (e, concat-bytes xs (λ i. h (suc i)))
