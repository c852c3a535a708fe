-- Texts written one after the other, from a place of a slice on, are one text.
use mathlib.Core.Path.{◌≡◌, refl, sym, ap, ◌∙◌}
use Prim.Native.Nat.{ℕ, ◌+◌, ◌≤◌, ◌<◌}
use native.Mathlib.Nat.{add_assoc}
use native.Mathlib.Numerals.{add-one}
use native.Mathlib.Omega.{arith}
use mathlib.Core.List.{List, [], ◌∷◌, ◌++◌, append_assoc}
use lib.ListN.{length, set, take, drop, length-append, length-take, length-set, take-append-drop}
use lib.Seq.{drop-drop, drop-append_seam, set_split, take-append_seam}
use Rattle.lists.specs.Written.{over}
use Rattle.listing_lines.specs.Internal.{with_text, Appends}

-- ---- the slice
with_text-both : (ws vs : List ℕ) (at : ℕ) (xs : List ℕ) → at + length ws ≤ length xs → with_text vs (at + length ws) (with_text ws at xs) ≡ with_text (ws ++ vs) at xs
unfolding with_text over
with_text-both ws vs at xs h =
    let front : length (take at xs ++ ws) ≡ at + length ws = simp (length-append, length-take) (omega arith) in
    let first : take (at + length ws) (take at xs ++ (ws ++ drop (length ws) (drop at xs))) ≡ take at xs ++ ws = rw (← append_assoc (take at xs) ws (drop (length ws) (drop at xs)), ← front) (take-append_seam (take at xs ++ ws) (drop (length ws) (drop at xs))) in
    let beyond : drop (at + length ws) (take at xs ++ (ws ++ drop (length ws) (drop at xs))) ≡ drop (length ws) (drop at xs) = rw (← append_assoc (take at xs) ws (drop (length ws) (drop at xs)), ← front) (drop-append_seam (take at xs ++ ws) (drop (length ws) (drop at xs))) in
    rw (first, beyond) (simp (drop-drop, length-append, append_assoc, add_assoc))

-- ---- the same of what a call promises
pub append_none : (at : ℕ) (xs : List ℕ) → Appends [] at xs at xs
unfolding with_text over
append_none at xs = record { same = refl; written = λ h. (omega arith, sym (take-append-drop at xs)) }

-- no room for it
pub append_beyond : (v at : ℕ) (xs : List ℕ) → length xs ≤ at → Appends (v ∷ []) at xs at xs
append_beyond v at xs h = record { same = refl; written = λ r. absurd (omega arith) }

pub append_one : (v at : ℕ) (xs : List ℕ) → at < length xs → Appends (v ∷ []) at xs (at + 1) (set xs at v)
unfolding with_text over
append_one v at xs h = record { same = length-set xs at v; written = λ r. (refl, rw (drop-drop, add-one) (set_split xs at v h)) }

pub append_then : {ws vs : List ℕ} {at : ℕ} {xs : List ℕ} {n : ℕ} {X : List ℕ} {m : ℕ} {Y : List ℕ}
    → Appends ws at xs n X → Appends vs n X m Y → Appends (ws ++ vs) at xs m Y
append_then {ws} {vs} {at} {xs} {n} {X} {m} {Y} p q = record { same = q.same ∙ p.same; written = λ h. both h }
  where
    both : at + length (ws ++ vs) ≤ length xs → (m ≡ at + length (ws ++ vs)) × (Y ≡ with_text (ws ++ vs) at xs)
    both h =
        let l = length-append ws vs in
        let room : at + length ws ≤ length xs = omega arith in
        let a = p.written room in
        let fits : n + length vs ≤ length X = omega (arith, a.0, p.same) in
        let b = q.written fits in
        (omega (arith, a.0, b.0), b.1 ∙ rw (a.0, a.1) (with_text-both ws vs at xs room))

-- a text at the front
pub append_front : {text xs : List ℕ} {n : ℕ} {X : List ℕ} → Appends text 0 xs n X → length text ≤ length xs → (n ≡ length text) × (X ≡ over text xs)
unfolding with_text
append_front {text} {xs} p h = let w = p.written (omega arith) in (omega (arith, w.0), w.1)

-- a text that was made in an array, for a call that writes it
pub record Made (text : List ℕ) (n : ℕ) (X : List ℕ) : Type 0 where
  pub within : n ≤ length X
  pub count : n ≡ length (take n X)
  pub is : take n X ≡ text

pub append_made : {text xs : List ℕ} {n : ℕ} {X : List ℕ} → Appends text 0 xs n X → length text ≤ length xs → Made text n X
unfolding over
append_made {text} {xs} {n} {X} p h =
    let w = append_front p h in
    let same : take n X ≡ text = rw (w.0, w.1) (take-append_seam text (drop (length text) xs)) in
    record { within = omega (arith, w.0, p.same); count = w.0 ∙ sym (ap length same); is = same }
