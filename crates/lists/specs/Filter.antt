-- The elements of a list that pass a test, the first of a list, and whether all of several tests hold.
use Rattle.std.specs.Prelude.{Bool, true, ◌&&◌, cond, List, [], ◌∷◌}

module _ {A : Type 0} where
  -- the elements that pass, in their order
  abbrev pub filter : (A → Bool) → List A → List A
  filter test [] = []
  filter test (x ∷ xs) = cond (test x) (x ∷ filter test xs) (filter test xs)

  -- the first one, or `none`
  abbrev pub first_or : A → List A → A
  first_or none [] = none
  first_or none (x ∷ xs) = x

abbrev pub all : List Bool → Bool
all [] = true
all (test ∷ others) = test && all others
