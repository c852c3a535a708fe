-- Laws of `specs/Filter.antt`, and a loop over f 0, f 1, .. that keeps those that pass.
use mathlib.Core.Path.{◌≡◌, refl, ◌∙◌}
use mathlib.Core.Logic.{⊎_elim}
use mathlib.Core.Bool.{Bool, true, false}
use mathlib.Core.List.{List, [], ◌∷◌, ◌++◌, append-nil}
use Prim.Native.Nat.{ℕ, ◌+◌}
use Rattle.lists.specs.Written.{each}
use Rattle.lists.specs.Filter.{filter}
use Rattle.lists.proofs.Cases.{bool_cases}
use Rattle.lists.proofs.Laws.{each_more}

module _ {A : Type 0} where
  pub filter-append : (test : A → Bool) (xs ys : List A) → filter test (xs ++ ys) ≡ filter test xs ++ filter test ys
  filter-append test [] ys = refl
  filter-append test (x ∷ xs) ys =
      ⊎_elim (λ (t : test x ≡ true). rw (t, filter-append test xs ys)) (λ (t : test x ≡ false). rw (t, filter-append test xs ys)) (bool_cases (test x))

  -- tests that say the same keep the same
  pub filter_same : (f g : A → Bool) (xs : List A) → ((x : A) → g x ≡ f x) → filter g xs ≡ filter f xs
  filter_same f g [] h = refl
  filter_same f g (x ∷ xs) h = rw (h x, filter_same f g xs h)

  module _ (test : A → Bool) (f : ℕ → A) (n : ℕ) where
    pub filter-in : test (f n) ≡ true → filter test (each f (n + 1)) ≡ filter test (each f n) ++ (f n ∷ [])
    filter-in t = rw (each_more f n) (filter-append test (each f n) (f n ∷ []) ∙ rw t)

    pub filter-out : test (f n) ≡ false → filter test (each f (n + 1)) ≡ filter test (each f n)
    filter-out t = rw (each_more f n) (filter-append test (each f n) (f n ∷ []) ∙ rw (t, append-nil))
