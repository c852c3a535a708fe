-- Strings that are stored one after the other.
use mathlib.Core.Path.{◌≡◌, refl, sym, ap, ◌∙◌}
use mathlib.Core.Logic.{◌⊎◌, inl, inr, ⊎_elim}
use Prim.Native.Nat.{ℕ, zero, suc, ◌+◌, ◌/◌, ◌%◌, ◌-◌, ◌^◌, ◌≤◌, ◌<◌, min}
use native.Mathlib.Nat.{mul_comm, add-zero, zero-add, add-suc, suc-add, pow-succ', div-one, div-div-eq-div-mul}
use native.Mathlib.Omega.{arith}
use mathlib.Core.List.{List, [], ◌∷◌, ◌++◌, append-nil, append_assoc}
use lib.ListN.{length, set, take, drop, length-take, drop_of_length-le}
use Rattle.std.proofs.lemmas.List.{take-append-drop}
use Rattle.std.specs.Int.{byte_at, bytes_low_first}
use lib.Seq.{sets, sets-eq, length-sets, set_out, take_all, drop-drop}
use Rattle.lists.specs.Written.{over}
use Rattle.lists.proofs.Cases.{le_or_lt}
use Rattle.layout.specs.Layout.{le_bytes}
use Rattle.layout.proofs.Numbers.{length-le_bytes}

module _ {A : Type 0} where
  pub sets_append : (l : List A) (i : ℕ) (v w : List A) → sets l i (v ++ w) ≡ sets (sets l i v) (i + length v) w
  sets_append l i [] w = rw add-zero
  sets_append l i (x ∷ v) w = rw add-suc (sets_append (set l i x) (suc i) v w ∙ rw suc-add)

  -- after the end nothing is stored
  pub sets_out : (l : List A) (i : ℕ) (v : List A) → length l ≤ i → sets l i v ≡ l
  sets_out l i [] h = refl
  sets_out l i (x ∷ v) h = rw (set_out l i x h) (sets_out l (suc i) v (omega arith))

  pub sets_saturated : (l : List A) (i : ℕ) (v : List A) → length l < 2 ^ 64 → sets l (min i (2 ^ 64 - 1)) v ≡ sets l i v
  sets_saturated l i v h =
      ⊎_elim
      (λ (t : i ≤ 2 ^ 64 - 1). let e : min i (2 ^ 64 - 1) ≡ i = omega arith in rw e)
      (λ (t : 2 ^ 64 - 1 < i). sets_out l (min i (2 ^ 64 - 1)) v (omega arith) ∙ sym (sets_out l i v (omega arith)))
      (le_or_lt i (2 ^ 64 - 1))

  -- over the slice's front
  pub sets_over : (v l : List A) → length v ≤ length l → sets l 0 v ≡ over v l
  unfolding over
  sets_over v l h = sets-eq v l 0 (omega arith) ∙ rw zero-add

-- as much of a string as is within the slice
module _ {A : Type 0} where
  -- the part that fits, and the part after the end
  split_store : (l : List A) (i k : ℕ) (v : List A) → i + k ≤ length l → k ≤ length v → (k ≡ length v) ⊎ (i + k ≡ length l)
      → sets l i v ≡ take i l ++ (take k v ++ drop (i + k) l)
  split_store l i k v fits h e =
      let size : length (take k v) ≡ k = simp length-take (omega arith) in
      let front : sets l i (take k v) ≡ take i l ++ (take k v ++ drop (i + k) l) = sets-eq (take k v) l i (omega (arith, size)) ∙ rw (size, append_assoc) refl in
      let parts : sets l i v ≡ sets (sets l i (take k v)) (i + k) (drop k v) =
      ap (sets l i) (sym (take-append-drop k v)) ∙ sets_append l i (take k v) (drop k v) ∙ rw size in
      let beyond : sets (sets l i (take k v)) (i + k) (drop k v) ≡ sets l i (take k v) =
      ⊎_elim
      (λ (all : k ≡ length v). let none : drop k v ≡ [] = drop_of_length-le v (omega arith) in rw none)
      (λ (end : i + k ≡ length l). sets_out (sets l i (take k v)) (i + k) (drop k v) (rw (length-sets l i (take k v)) (omega arith)))
      e
      in
      parts ∙ beyond ∙ front

  pub sets_within : (l : List A) (i : ℕ) (v : List A) {start end : ℕ} → start ≡ min i (length l) → end ≡ min (i + length v) (length l)
      → sets l i v ≡ take start l ++ (take (end - start) v ++ drop (end - start) (drop start l))
  sets_within l i v {start} {end} p q =
      let far : start + (end - start) ≡ end = omega arith in
      rw (drop-drop, far)
      (⊎_elim
      (λ (h : i ≤ length l).
      let s : start ≡ i = omega arith in
      let e : i + (end - i) ≡ end = omega arith in
      let one : (end - start ≡ length v) ⊎ (i + (end - start) ≡ length l) = ⊎_elim (λ (a : i + length v ≤ length l). inl (omega arith)) (λ (a : length l < i + length v). inr (omega arith)) (le_or_lt (i + length v) (length l)) in
      split_store l i (end - start) v (omega arith) (omega arith) one ∙ rw (s, e))
      (λ (h : length l < i).
      let s : start ≡ length l = omega arith in
      let e : end ≡ length l = omega arith in
      let n : length l - length l ≡ 0 = omega arith in
      let none : drop (length l) l ≡ [] = drop_of_length-le l (omega arith) in
      sets_out l i v (omega arith) ∙ rw (s, e, n, take_all (length l) l (omega arith), none) (sym (append-nil l)))
      (le_or_lt i (length l)))

-- std's bytes of a number are these
pub le_bytes-from : (n k x : ℕ) → bytes_low_first k n x ≡ le_bytes n (x / 256 ^ k)
unfolding le_bytes
le_bytes-from zero k x = refl
le_bytes-from (suc n) k x =
    let one : byte_at k x ≡ x / 256 ^ k % 256 = byte_is k x in
    let next : x / 256 ^ suc k ≡ x / 256 ^ k / 256 = rw (pow-succ', mul_comm 256 (256 ^ k)) (sym (div-div-eq-div-mul x (256 ^ k) 256)) in
    rw (one, le_bytes-from n (suc k) x, next) refl
  where
    byte_is : (k x : ℕ) → byte_at k x ≡ x / 256 ^ k % 256
    byte_is zero x = rw div-one refl
    byte_is (suc k) x = refl

-- the first of several strings, of which one is a number
pub sets_word : (l : List ℕ) (at n x : ℕ) (w : List ℕ) → sets l at (le_bytes n x ++ w) ≡ sets (sets l at (le_bytes n x)) (at + n) w
sets_word l at n x w = rw (sets_append l at (le_bytes n x) w, length-le_bytes n x)
