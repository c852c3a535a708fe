-- `flatv66_event_channels`: which places of a method's bytes hold a channel, and what it answers. Differences of places and
-- sizes stop at 0.
use Rattle.std.specs.Prelude.{ℕ, ◌+◌, ◌-◌, Bool, false, ◌&&◌, ◌||◌, List, [], ◌∷◌, map, eqb, Float, length}
use Rattle.std.specs.Float.Ieee.{lt, le}
use Rattle.refusal.specs.Outcome.{Outcome}
use Rattle.lists.specs.Left.{lists_if_fit}
use Rattle.float_bits.specs.Numbers.{whole}
use Rattle.parser.specs.Parser.{word_at, f64_at}
use Rattle.srm_transition.specs.Places.{places_where}
use Rattle.srm_transition.specs.Transition.{narrow_window}
use Rattle.srm_channels.specs.declared.Channel.{Channel}

-- whether a number is one of the events
unfoldable pub is_event : ℕ → List ℕ → Bool
is_event id [] = false
is_event id (event ∷ events) = eqb event id || is_event id events

-- from low, which is included, up to high, which is not
abbrev pub from_up_to : Float → Float → Float → Bool
from_up_to low high x = le low x && lt x high

-- the upper end of a Q3 window stands at i, the lower end 8 bytes before it, Q1 16, an event's number 24, all its 32 bits; the
-- collision energy stands 8 bytes after it
unfoldable pub channel_test : List ℕ → List ℕ → ℕ → Bool
channel_test events s i =
    narrow_window (f64_at s (i - 8)) (f64_at s i)
    && from_up_to (whole 5) (whole 2000) (f64_at s i)
    && is_event (word_at s (i - 24) 4) events
    && from_up_to (whole 10) (whole 3000) (f64_at s (i - 16))
    && from_up_to (whole 0) (whole 500) (f64_at s (i + 8))

abbrev pub channel_at : List ℕ → ℕ → Channel
channel_at s i = record { event = word_at s (i - 24) 4; q1 = word_at s (i - 16) 8; collision_energy = word_at s (i + 8) 8 }

-- the channels in the order of their places
unfoldable pub channels_in : List ℕ → List ℕ → List Channel
channels_in events s = map (channel_at s) (places_where (channel_test events s) 24 (length s - 48))

-- the lists that take them: event numbers, Q1 and collision energies
abbrev pub channel_lists : List Channel → List (List ℕ)
channel_lists channels = map (λ c. c.event) channels ∷ map (λ c. c.q1) channels ∷ map (λ c. c.collision_energy) channels ∷ []

-- what `flatv66_event_channels` answers: how many channels there are, with their lists, or refusal 8
unfoldable pub channel_list : List ℕ → List ℕ → List ℕ → Outcome (ℕ × List (List ℕ))
channel_list events s capacities = lists_if_fit capacities (length (channels_in events s)) (channel_lists (channels_in events s))
