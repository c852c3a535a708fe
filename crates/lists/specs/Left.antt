-- What a call leaves that writes into lent slices: its answer, and the slices. A slice's capacity is its length.
use Rattle.std.specs.Prelude.{◌≡◌, ℕ, Bool, true, false, ◌&&◌, cond, List, [], ◌∷◌, ◌++◌, map, leb, length, Result}
use Rattle.refusal.specs.Outcome.{Outcome, ok, refused, on_ok}
use Rattle.refusal.specs.Number.{outcome_of}
use Rattle.refusal.specs.declared.Refusal.{Refusal}
use Rattle.lists.specs.Written.{over, fitting}

-- what is lent, after a call: its outcome's value is written, and a refused call leaves it as it was
unfoldable pub after : {A L : Type 0} → (A → L → L) → Outcome A → L → L
after write (ok a) xs = write a xs
after write (refused number carries) xs = xs

-- a call with the outcome o was lent xs: its answer has the outcome r, and it leaves ys. L is all that is lent. Both
-- equations leave one answer and one ys
pub record Left {A B L : Type 0} (answer : A → B) (write : A → L → L) (o : Outcome A) (xs : L) (r : Outcome B) (ys : L) : Type 0 where
  pub answered : r ≡ on_ok answer o
  pub stands : ys ≡ after write o xs

-- each count is at most the capacity of its slice, and there is a slice for each
abbrev pub fits : List ℕ → List ℕ → Bool
fits [] capacities = true
fits (n ∷ ns) [] = false
fits (n ∷ ns) (c ∷ cs) = leb n c && fits ns cs

-- the value, or refusal 8 where a lent slice is too short
abbrev pub if_fits : {A : Type 0} → Bool → A → Outcome A
if_fits room a = cond room (ok a) (refused 8 [])

-- ---- a list, in one slice: a call that writes vs over the front of xs, if it holds them, and answers how many it wrote
pub record LeftList {A : Type 0} (vs xs : List A) (r : Result ℕ Refusal) (ys : List A) : Type 0 where
  pub answered : outcome_of r ≡ if_fits (leb (length vs) (length xs)) (length vs)
  pub stands : ys ≡ fitting vs xs

-- ---- a list, in one slice, by a call that goes by the slice's capacity and may be refused for other reasons than room
abbrev pub LeftListBy : {A : Type 0} → (ℕ → Outcome (List A)) → List A → Result ℕ Refusal → List A → Type 0
LeftListBy call xs r ys = Left length over (call (length xs)) xs (outcome_of r) ys

-- ---- several lists, each in a slice of its own
module _ {E : Type 0} where
  -- the slices, with a list over the front of each
  abbrev pub over_all : List (List E) → List (List E) → List (List E)
  over_all [] xs = xs
  over_all (v ∷ vs) [] = []
  over_all (v ∷ vs) (x ∷ xs) = over v x ∷ over_all vs xs

  abbrev pub lengths : List (List E) → List ℕ
  lengths xs = map length xs

  -- a call's answer with the lists that it writes, or refusal 8, where slices of these capacities are lent
  unfoldable pub lists_if_fit : {A : Type 0} → List ℕ → A → List (List E) → Outcome (A × List (List E))
  lists_if_fit capacities a vs = if_fits (fits (lengths vs) capacities) (a, vs)

  -- such a call was lent xs: its answer has the outcome r, and it leaves ys. The call goes by the capacities
  abbrev pub LeftLists : {A : Type 0} → (List ℕ → Outcome (A × List (List E))) → List (List E) → Outcome A → List (List E) → Type 0
  LeftLists {A} call xs r ys = Left (λ (v : A × List (List E)). v.0) (λ (v : A × List (List E)). over_all v.1) (call (lengths xs)) xs r ys

-- ---- a list of pairs, in two slices: peaks, windows, pairs of a profile
module _ {A B : Type 0} where
  abbrev pub firsts : List (A × B) → List A
  firsts ps = map (λ (p : A × B). p.0) ps

  abbrev pub seconds : List (A × B) → List B
  seconds ps = map (λ (p : A × B). p.1) ps

  abbrev pub columns : List (A × B) → List A × List B → List A × List B
  columns ps xs = (over (firsts ps) xs.0, over (seconds ps) xs.1)

  -- the pairs, or refusal 8, where slices of these capacities are lent
  unfoldable pub pairs_if_fit : ℕ → ℕ → List (A × B) → Outcome (List (A × B))
  pairs_if_fit m n ps = if_fits (fits (length ps ∷ length ps ∷ []) (m ∷ n ∷ [])) ps

  -- a call of two lent slices that answers how many pairs it wrote. The call goes by the capacities
  abbrev pub LeftPairs : (ℕ → ℕ → Outcome (List (A × B))) → List A → List B → Result ℕ Refusal → List A → List B → Type 0
  LeftPairs call xs ys r xs' ys' = Left length columns (call (length xs) (length ys)) (xs, ys) (outcome_of r) (xs', ys')

-- ---- several lists, each in a slice of its own, and a list of pairs, in two slices
module _ {E A B : Type 0} where
  unfoldable pub lists_and_pairs_if_fit : {R : Type 0} → List ℕ → R → List (List E) → List (A × B) → Outcome (R × List (List E) × List (A × B))
  lists_and_pairs_if_fit capacities r vs ps = if_fits (fits (lengths vs ++ length ps ∷ length ps ∷ []) capacities) (r, vs, ps)

  -- such a call was lent the slices xs, and ys and zs for the pairs
  abbrev pub LeftListsAndPairs : {R : Type 0} → (List ℕ → Outcome (R × List (List E) × List (A × B)))
      → List (List E) → List A → List B → Outcome R → List (List E) → List A → List B → Type 0
  LeftListsAndPairs {R} call xs ys zs r xs' ys' zs' =
      Left (λ (v : R × List (List E) × List (A × B)). v.0)
      (λ (v : R × List (List E) × List (A × B)) (l : List (List E) × List A × List B). (over_all v.1 l.0, over (firsts v.2) l.1, over (seconds v.2) l.2))
      (call (lengths xs ++ length ys ∷ length zs ∷ [])) (xs, ys, zs) r (xs', ys', zs')
