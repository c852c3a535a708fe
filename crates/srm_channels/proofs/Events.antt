-- The channel list goes by which numbers are events, not by how often one stands there.
use mathlib.Core.Path.{◌≡◌, refl}
use mathlib.Core.Bool.{Bool, true, false, ◌||◌}
use mathlib.Core.List.{List, ◌∷◌}
use Prim.Native.Nat.{ℕ, ◌-◌}
use lib.Dec.{eqb}
use lib.ListN.{length}
use Rattle.srm_channels.specs.Channels.{is_event, channel_test, channels_in}
use Rattle.srm_transition.proofs.Places.{places_same}

pub channels_same_events : (events others s : List ℕ) → ((id : ℕ) → is_event id others ≡ is_event id events) → channels_in others s ≡ channels_in events s
unfolding channels_in channel_test
channels_same_events events others s h =
    rw (places_same (channel_test events s) (channel_test others s) 24 (length s - 48) (λ i. rw h))

or_twice : (a b : Bool) → a || (a || b) ≡ a || b
or_twice true b = refl
or_twice false b = refl

-- an event number that stands twice gives its channels once
pub channels_event_twice : (event : ℕ) (events s : List ℕ) → channels_in (event ∷ event ∷ events) s ≡ channels_in (event ∷ events) s
unfolding is_event
channels_event_twice event events s =
    channels_same_events (event ∷ events) (event ∷ event ∷ events) s (λ id. or_twice (eqb event id) (is_event id events))
