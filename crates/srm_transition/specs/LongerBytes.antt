-- The terms' sentence on a transition search, on what it answers.
use Rattle.std.specs.Prelude.{◌≡◌, ℕ, List, ◌++◌}

-- `meets s r` says that on the bytes s the answer is r: what was found, place and fields, is found in all longer bytes
abbrev pub FoundStays : {R : Type 0} → R → (List ℕ → R → Type 0) → Type 0
FoundStays {R} none meets = (s t : List ℕ) (r q : R) → meets s r → meets (s ++ t) q → (r ≡ none → ⊥) → q ≡ r
