-- The places that pass, one turn of a loop after the other, and in longer bytes.
use mathlib.Core.Path.{◌≡◌, refl, ap, ◌∙◌}
use mathlib.Core.Logic.{⊎_elim}
use mathlib.Core.Bool.{Bool, true, false, cond}
use mathlib.Core.List.{List, [], ◌∷◌, ◌++◌, append_assoc, append-nil, map, map-append}
use Prim.Native.Nat.{ℕ, zero, suc, ◌+◌, ◌-◌, ◌≤◌, ◌<◌}
use native.Mathlib.Nat.{add-zero, add-suc, add_assoc}
use native.Mathlib.Omega.{arith}
use lib.ListN.{length, length-append}
use Rattle.lists.specs.Written.{each}
use Rattle.lists.specs.Filter.{filter, first_or}
use Rattle.lists.proofs.Cases.{bool_cases}
use Rattle.lists.proofs.Filter.{filter-append, filter_same}
use Rattle.srm_transition.specs.Places.{places_where}
use Rattle.srm_transition.proofs.Local.{Local}

-- of n places from `from` on
abbrev places_of : (ℕ → Bool) → ℕ → ℕ → List ℕ
places_of test from n = filter test (each (λ k. from + k) n)

one_more : (test : ℕ → Bool) (from n : ℕ) → places_of test from (suc n) ≡ places_of test from n ++ cond (test (from + n)) ((from + n) ∷ []) []
unfolding each
one_more test from n = filter-append test (each (λ k. from + k) n) ((from + n) ∷ [])

places_add : (test : ℕ → Bool) (from n m : ℕ) → places_of test from (n + m) ≡ places_of test from n ++ places_of test (from + n) m
unfolding each
places_add test from n zero = rw (add-zero, append-nil)
places_add test from n (suc m) =
    rw (add-suc, one_more test from (n + m), one_more test (from + n) m, places_add test from n m, ← add_assoc)
    (append_assoc (places_of test from n) (places_of test (from + n) m) (cond (test (from + n + m)) ((from + n + m) ∷ []) []))

module _ (test : ℕ → Bool) (from : ℕ) where
  pub places_none : (end : ℕ) → end ≤ from → places_where test from end ≡ []
  unfolding places_where each
  places_none end h = let none : end - from ≡ 0 = omega arith in rw none

  module _ (i : ℕ) (h : from ≤ i) where
    next : places_where test from (i + 1) ≡ places_where test from i ++ cond (test i) (i ∷ []) []
    unfolding places_where
    next =
        let more : i + 1 - from ≡ suc (i - from) = omega arith in
        let here : from + (i - from) ≡ i = omega arith in
        rw more (rw here at (one_more test from (i - from)))

    pub places_in : test i ≡ true → places_where test from (i + 1) ≡ places_where test from i ++ (i ∷ [])
    places_in t = next ∙ rw t

    pub places_out : test i ≡ false → places_where test from (i + 1) ≡ places_where test from i
    places_out t = next ∙ rw (t, append-nil)

    -- the places below i come first among those below `end`
    pub places_front : (end : ℕ) → i ≤ end → places_where test from end ≡ places_where test from i ++ places_where test i end
    unfolding places_where
    places_front end l =
        let both : end - from ≡ i - from + (end - i) = omega arith in
        let seam : from + (i - from) ≡ i = omega arith in
        rw both (rw seam at (places_add test from (i - from) (end - i)))

-- tests that say the same pass the same places
pub places_same : (f g : ℕ → Bool) (from end : ℕ) → ((i : ℕ) → g i ≡ f i) → places_where g from end ≡ places_where f from end
unfolding places_where
places_same f g from end h = filter_same f g (each (λ k. from + k) (end - from)) h

-- ---- a search, one place a turn
module _ {A : Type 0} (test : ℕ → Bool) (value : ℕ → A) (none : A) (at end : ℕ) where
  -- the value of the first place that passes, from `at` on
  abbrev pub first : A
  first = first_or none (map value (places_where test at end))

  turn : at < end → places_where test at end ≡ places_where test at (at + 1) ++ places_where test (at + 1) end
  turn h = places_front test at (at + 1) (omega arith) end (omega arith)

  pub first_here : at < end → test at ≡ true → first ≡ value at
  first_here h t = rw (turn h, places_in test at at (omega arith) t, places_none test at at (omega arith))

  pub first_later : at < end → test at ≡ false → first ≡ first_or none (map value (places_where test (at + 1) end))
  first_later h t = rw (turn h, places_out test at at (omega arith) t, places_none test at at (omega arith))

  pub first_none : end ≤ at → first ≡ none
  first_none h = rw (places_none test at end h)

-- ---- longer bytes: the test and the value go by bytes that are there
module _ {A : Type 0} (from beyond : ℕ) (test : List ℕ → ℕ → Bool) (value : List ℕ → ℕ → A) where
  abbrev pub values_in : List ℕ → List A
  values_in s = map (value s) (places_where (test s) from (length s - beyond))

  module _ (by_test : Local from beyond test) (by_value : Local from beyond value) (s t : List ℕ) where
    abbrev values_of : List ℕ → ℕ → List A
    values_of u n = map (value u) (places_of (test u) from n)

    same : (n : ℕ) → n ≤ length s - beyond - from → values_of (s ++ t) n ≡ values_of s n
    unfolding each
    same zero h = refl
    same (suc n) h =
        let before = same n (omega arith) in
        ⊎_elim
        (λ (e : test s (from + n) ≡ true). rw (one_more (test (s ++ t)) from n, one_more (test s) from n, by_test s t (from + n) (omega arith) (omega arith), e, map-append, map-append, before, by_value s t (from + n) (omega arith) (omega arith)))
        (λ (e : test s (from + n) ≡ false). rw (one_more (test (s ++ t)) from n, one_more (test s) from n, by_test s t (from + n) (omega arith) (omega arith), e, append-nil, append-nil, before))
        (bool_cases (test s (from + n)))

    -- the values in longer bytes are these, with none or more at their end
    pub values_longer : (more : List A) × (values_in (s ++ t) ≡ values_in s ++ more)
    unfolding places_where
    values_longer =
        let places = length s - beyond - from in
        let besides = length (s ++ t) - beyond - from - places in
        let all : length (s ++ t) - beyond - from ≡ places + besides = simp length-append (omega arith) in
        let more = map (value (s ++ t)) (places_of (test (s ++ t)) (from + places) besides) in
        (more, ap (values_of (s ++ t)) all ∙ ap (map (value (s ++ t))) (places_add (test (s ++ t)) from places besides) ∙ map-append (value (s ++ t)) (places_of (test (s ++ t)) from places) (places_of (test (s ++ t)) (from + places) besides) ∙ ap (λ (l : List A). l ++ more) (same places (omega arith)))
