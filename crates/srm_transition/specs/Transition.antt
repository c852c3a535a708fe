-- `search_v63_transition` and `flatv66_event_transition`: which place of a method's bytes holds a transition. Differences of
-- places and sizes stop at 0.
use Rattle.std.specs.Prelude.{ℕ, ◌+◌, ◌-◌, Bool, not, ◌&&◌, List, map, eqb, Float, length, Some, None, Option}
use Rattle.std.specs.Float.{binary64}
use Rattle.std.specs.Float.Ieee.{sub, lt, le}
use Rattle.std.specs.Float.Ieee.Scale.{finite}
use Rattle.float_bits.specs.Absolute.{absolute}
use Rattle.parser.specs.Parser.{word_at, f64_at}
use Rattle.lists.specs.Filter.{first_or}
use Rattle.srm_transition.specs.Places.{places_where}
use Rattle.srm_transition.specs.declared.Transition.{Transition}
use Rattle.srm_transition.specs.declared.EventTransition.{EventTransition}
use Rattle.float_bits.specs.Numbers.{ratio, whole}

-- a finite number from low to high, both included
abbrev pub in_range : Float → Float → Float → Bool
in_range low high x = finite x && le low x && le x high

-- not farther than 0.002, which holds of 0.002 and, as a NaN compares with nothing, of a NaN
abbrev pub not_far : Float → Float → Bool
not_far x target = not (lt (ratio 2 1000) (absolute (sub binary64 x target)))

-- the Q3 centre at j is not far; Q1 stands 8 bytes before it, the width 8 and the collision energy 24 bytes after it
unfoldable pub v63_test : Float → List ℕ → ℕ → Bool
v63_test target s j =
    not_far (f64_at s j) target
    && in_range (whole 50) (whole 3000) (f64_at s (j - 8))
    && in_range (ratio 1 100) (whole 10) (f64_at s (j + 8))
    && in_range (ratio 1 10) (whole 300) (f64_at s (j + 24))

abbrev pub v63_at : List ℕ → ℕ → Transition
v63_at s j =
    record { place = j; q1 = word_at s (j - 8) 8; q3_width = word_at s (j + 8) 8; collision_energy = word_at s (j + 24) 8 }

unfoldable pub search_v63_transition : Float → List ℕ → Option Transition
search_v63_transition target s = first_or None (map (λ j. Some (v63_at s j)) (places_where (v63_test target s) 8 (length s - 32)))

-- a Q3 window: its upper end is above the lower one by less than 0.1
abbrev pub narrow_window : Float → Float → Bool
narrow_window lo hi = lt lo hi && lt (sub binary64 hi lo) (ratio 1 10)

-- nearer than 0.002, which neither 0.002 nor a NaN is
abbrev pub is_near : Float → Float → Bool
is_near x target = lt (absolute (sub binary64 x target)) (ratio 2 1000)

-- between low and high, both excluded
abbrev pub is_between : Float → Float → Float → Bool
is_between low high x = lt low x && lt x high

-- the upper end of the Q3 window at i is near; the lower end stands 8 bytes before it, Q1 16 and the event's number 24
unfoldable pub event_test : ℕ → Float → List ℕ → ℕ → Bool
event_test event hi s i =
    is_near (f64_at s i) hi
    && narrow_window (f64_at s (i - 8)) (f64_at s i)
    && eqb (word_at s (i - 24) 4) event
    && is_between (whole 10) (whole 3000) (f64_at s (i - 16))

abbrev pub event_transition_at : List ℕ → ℕ → EventTransition
event_transition_at s i = record { place = i; q1 = word_at s (i - 16) 8 }

unfoldable pub flatv66_event_transition : ℕ → Float → List ℕ → Option EventTransition
flatv66_event_transition event hi s = first_or None (map (λ i. Some (event_transition_at s i)) (places_where (event_test event hi s) 24 (length s - 8)))
