-- By computation: 73 bytes can hold a channel. What is written, what is left of the slices, and what is refused.
use mathlib.Core.Path.{◌≡◌, refl}
use mathlib.Core.List.{List, [], ◌∷◌, ◌++◌}
use Prim.Native.Nat.{ℕ}
use lib.Ieee.{of_bits, of_int, round, sub, lt, le}
use lib.ListN.{length, replicate}
use Rattle.refusal.specs.Outcome.{ok, refused}
use Rattle.lists.specs.Left.{after, lists_if_fit, LeftLists}
use Rattle.lists.specs.Written.{each, over}
use Rattle.srm_transition.specs.Places.{places_where}
use Rattle.srm_channels.specs.Channels.{is_event, channel_test, channels_in, channel_list}

-- the number 7, with `upper` as its third byte, 4 bytes, Q1 500, the window 99.9375 to 100, the collision energy 0, and 33 bytes more
abbrev stream : ℕ → List ℕ
stream upper =
    (0x07 ∷ 0x00 ∷ upper ∷ 0x00 ∷ 0x00 ∷ 0x00 ∷ 0x00 ∷ 0x00 ∷ [])
    ++ (0x00 ∷ 0x00 ∷ 0x00 ∷ 0x00 ∷ 0x00 ∷ 0x40 ∷ 0x7f ∷ 0x40 ∷ [])
    ++ (0x00 ∷ 0x00 ∷ 0x00 ∷ 0x00 ∷ 0x00 ∷ 0xfc ∷ 0x58 ∷ 0x40 ∷ [])
    ++ (0x00 ∷ 0x00 ∷ 0x00 ∷ 0x00 ∷ 0x00 ∷ 0x00 ∷ 0x59 ∷ 0x40 ∷ [])
    ++ (0x00 ∷ 0x00 ∷ 0x00 ∷ 0x00 ∷ 0x00 ∷ 0x00 ∷ 0x00 ∷ 0x00 ∷ [])
    ++ replicate 33 0

fewest_73 : length (stream 0) ≡ 73
fewest_73 = refl

-- event 7 stands twice among the events; the slices have room for more
pub found_in_73 : LeftLists (channel_list (7 ∷ 7 ∷ []) (stream 0)) ((1 ∷ 1 ∷ []) ∷ (2 ∷ 2 ∷ []) ∷ (3 ∷ []) ∷ []) (ok 1)
    ((7 ∷ 1 ∷ []) ∷ (0x407f_4000_0000_0000 ∷ 2 ∷ []) ∷ (0 ∷ []) ∷ [])
unfolding channel_list lists_if_fit channels_in places_where each channel_test is_event over after of_bits of_int round sub lt le
found_in_73 = record { answered = refl; stands = refl }

-- the number 65,543 is not event 7
pub none_above_65535 : LeftLists (channel_list (7 ∷ []) (stream 1)) ((1 ∷ []) ∷ (2 ∷ []) ∷ (3 ∷ []) ∷ []) (ok 0) ((1 ∷ []) ∷ (2 ∷ []) ∷ (3 ∷ []) ∷ [])
unfolding channel_list lists_if_fit channels_in places_where each channel_test is_event over after of_bits of_int round sub lt le
none_above_65535 = record { answered = refl; stands = refl }

-- one slice too short: refusal 8, and nothing is altered
pub refused_channels : LeftLists (channel_list (7 ∷ []) (stream 0)) ((1 ∷ []) ∷ [] ∷ (3 ∷ []) ∷ []) (refused 8 []) ((1 ∷ []) ∷ [] ∷ (3 ∷ []) ∷ [])
unfolding channel_list lists_if_fit channels_in places_where each channel_test is_event after of_bits of_int round sub lt le
refused_channels = record { answered = refl; stands = refl }
