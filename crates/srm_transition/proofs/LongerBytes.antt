-- What a transition search has found it finds in all longer bytes; and the fewest bytes that can hold a find.
use Rattle.std.specs.Prelude.{Some, None}
use mathlib.Core.Path.{◌≡◌, refl, sym, ◌∙◌}
use mathlib.Core.Bool.{Bool}
use mathlib.Core.List.{List, [], ◌∷◌, ◌++◌}
use Prim.Native.Nat.{ℕ, ◌+◌, ◌-◌, ◌<◌}
use native.Mathlib.Omega.{arith}
use lib.Ieee.{Float}
use lib.ListN.{length}
use Rattle.lists.specs.Filter.{first_or}
use Rattle.srm_transition.specs.Transition.{v63_test, v63_at, search_v63_transition, event_test, event_transition_at, flatv66_event_transition}
use Rattle.srm_transition.specs.LongerBytes.{FoundStays}
use Rattle.srm_transition.proofs.Local.{Local, le_there}
use Rattle.srm_transition.proofs.Places.{values_in, values_longer, first_none}

-- ---- every search
first_stays : {A : Type 0} (none : A) (xs more ys : List A) → ys ≡ xs ++ more → (first_or none xs ≡ none → ⊥) → first_or none ys ≡ first_or none xs
first_stays none [] more ys e some = absurd (some refl)
first_stays none (x ∷ xs) more ys e some = rw e

found_stays : {A : Type 0} (none : A) (from beyond : ℕ) (test : List ℕ → ℕ → Bool) (value : List ℕ → ℕ → A) → Local from beyond test → Local from beyond value → (s t : List ℕ)
    → (first_or none (values_in from beyond test value s) ≡ none → ⊥) → first_or none (values_in from beyond test value (s ++ t)) ≡ first_or none (values_in from beyond test value s)
found_stays none from beyond test value by_test by_value s t some =
    let l = values_longer from beyond test value by_test by_value s t in
    first_stays none (values_in from beyond test value s) l.0 (values_in from beyond test value (s ++ t)) l.1 some

-- the same of what a function answers that goes by the search
stays_answered : {R : Type 0} (none : R) (f : List ℕ → R) → ((s t : List ℕ) → (f s ≡ none → ⊥) → f (s ++ t) ≡ f s) → FoundStays none (λ s r. r ≡ f s)
stays_answered none f stays s t r q a b some = b ∙ stays s t (λ z. some (a ∙ z)) ∙ sym a

-- ---- both searches
v63_by : (target : Float) → Local 8 32 (v63_test target)
unfolding v63_test
v63_by target s t j h k =
    rw (le_there s t j 8 (omega arith), le_there s t (j - 8) 8 (omega arith), le_there s t (j + 8) 8 (omega arith), le_there s t (j + 24) 8 (omega arith))

v63_at_by : Local 8 32 (λ s j. Some (v63_at s j))
v63_at_by s t j h k =
    rw (le_there s t (j - 8) 8 (omega arith), le_there s t (j + 8) 8 (omega arith), le_there s t (j + 24) 8 (omega arith))

pub v63_found_stays : (target : Float) (s t : List ℕ) → (search_v63_transition target s ≡ None → ⊥)
    → search_v63_transition target (s ++ t) ≡ search_v63_transition target s
unfolding search_v63_transition
v63_found_stays target s t some = found_stays None 8 32 (v63_test target) (λ s j. Some (v63_at s j)) (v63_by target) v63_at_by s t some

pub v63_longer : (target : Float) → FoundStays None (λ s r. r ≡ search_v63_transition target s)
v63_longer target = stays_answered None (search_v63_transition target) (v63_found_stays target)

pub v63_fewest : (target : Float) (s : List ℕ) → length s < 41 → search_v63_transition target s ≡ None
unfolding search_v63_transition
v63_fewest target s h = first_none _ _ _ _ _ (omega arith)

event_by : (event : ℕ) (hi : Float) → Local 24 8 (event_test event hi)
unfolding event_test
event_by event hi s t i h k =
    rw (le_there s t i 8 (omega arith), le_there s t (i - 8) 8 (omega arith), le_there s t (i - 24) 4 (omega arith), le_there s t (i - 16) 8 (omega arith))

event_at_by : Local 24 8 (λ s i. Some (event_transition_at s i))
event_at_by s t i h k = rw (le_there s t (i - 16) 8 (omega arith))

pub event_found_stays : (event : ℕ) (hi : Float) (s t : List ℕ) → (flatv66_event_transition event hi s ≡ None → ⊥)
    → flatv66_event_transition event hi (s ++ t) ≡ flatv66_event_transition event hi s
unfolding flatv66_event_transition
event_found_stays event hi s t some =
    found_stays None 24 8 (event_test event hi) (λ s i. Some (event_transition_at s i)) (event_by event hi) event_at_by s t some

pub event_longer : (event : ℕ) (hi : Float) → FoundStays None (λ s r. r ≡ flatv66_event_transition event hi s)
event_longer event hi = stays_answered None (flatv66_event_transition event hi) (event_found_stays event hi)

pub event_fewest : (event : ℕ) (hi : Float) (s : List ℕ) → length s < 33 → flatv66_event_transition event hi s ≡ None
unfolding flatv66_event_transition
event_fewest event hi s h = first_none _ _ _ _ _ (omega arith)
