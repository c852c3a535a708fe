-- Laws of lists that the loop of `keep_listed` and its callers go by.
use mathlib.Core.Path.{◌≡◌, refl, sym, ap, ◌∙◌}
use mathlib.Core.Bool.{Bool, true, false}
use mathlib.Core.Logic.{⊎_elim}
use mathlib.Core.List.{List, [], ◌∷◌, zip, zip_with}
use Prim.Native.Nat.{ℕ, zero, suc, ◌+◌, ◌-◌, ◌≤◌, min}
use native.Mathlib.Omega.{arith}
use lib.ListN.{length, get_or, take, drop}
use lib.Seq.{get_or-append-add, get_or-drop, take-append_seam}
use Rattle.lists.specs.Written.{each, over}
use Rattle.lists.specs.Filter.{filter}
use Rattle.lists.specs.Left.{firsts, seconds}
use Rattle.lists.proofs.Cases.{bool_cases}
use Rattle.lists.proofs.Laws.{each_cons, each_none, length_over}

-- ---- a slice over whose front a list was written
module _ {A : Type 0} where
  -- after the list the slice is as it was
  pub beyond : (vs xs X : List A) (i : ℕ) (d : A) → X ≡ over vs xs → length vs ≤ i → get_or X i d ≡ get_or xs i d
  unfolding over
  beyond vs xs X i d e h =
      let seam : i ≡ length vs + (i - length vs) = omega arith in
      rw (e, seam) (get_or-append-add vs (drop (length vs) xs) (i - length vs) d ∙ get_or-drop (length vs) xs (i - length vs) d)

  -- and the list stands at its front
  pub front : {n : ℕ} (vs xs : List A) {ys : List A} → n ≡ length vs → length vs ≤ length xs → ys ≡ over vs xs → (n ≤ length ys) × (take n ys ≡ vs)
  unfolding over
  front vs xs e h w = (omega (arith, e, h, ap length w, length_over vs xs h), rw (e, w) (take-append_seam vs (drop (length vs) xs)))

  pub filter-length : (test : A → Bool) (xs : List A) → length (filter test xs) ≤ length xs
  filter-length test [] = omega arith
  filter-length test (x ∷ xs) =
      let fewer = filter-length test xs in
      ⊎_elim (λ (t : test x ≡ true). rw t (omega arith)) (λ (t : test x ≡ false). rw t (omega arith)) (bool_cases (test x))

-- ---- pairs of two lists, as far as both go
module _ {A B : Type 0} where
  pub zip-columns : (ps : List (A × B)) → zip (firsts ps) (seconds ps) ≡ ps
  unfolding zip zip_with
  zip-columns [] = refl
  zip-columns (p ∷ ps) = ap (λ l. p ∷ l) (zip-columns ps)

  pub zip_length : (xs : List A) (ys : List B) → (length (zip xs ys) ≤ length xs) × (length (zip xs ys) ≤ length ys)
  unfolding zip zip_with
  zip_length [] ys = (omega arith, omega arith)
  zip_length (x ∷ xs) [] = (omega arith, omega arith)
  zip_length (x ∷ xs) (y ∷ ys) = let l = zip_length xs ys in (omega (arith, l.0), omega (arith, l.1))

  -- by their places. The lists have so many, so a and b do not matter
  pub zip-each : (xs : List A) (ys : List B) (n : ℕ) (a : A) (b : B) → n ≡ min (length xs) (length ys) → each (λ i. (get_or xs i a, get_or ys i b)) n ≡ zip xs ys
  unfolding zip zip_with
  zip-each [] ys zero a b e = sym (each_none _)
  zip-each [] ys (suc n) a b e = absurd (omega arith)
  zip-each (x ∷ xs) [] zero a b e = sym (each_none _)
  zip-each (x ∷ xs) [] (suc n) a b e = absurd (omega arith)
  zip-each (x ∷ xs) (y ∷ ys) zero a b e = absurd (omega arith)
  zip-each (x ∷ xs) (y ∷ ys) (suc n) a b e = each_cons (λ i. (get_or (x ∷ xs) i a, get_or (y ∷ ys) i b)) n ∙ ap (λ l. (x, y) ∷ l) (zip-each xs ys n a b (omega arith))
