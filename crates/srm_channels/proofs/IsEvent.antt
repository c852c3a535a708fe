-- Whether a number is one of the events; and one of them has as many bits as they have.
use mathlib.Core.Path.{◌≡◌, refl, ap}
use mathlib.Core.Logic.{⊎_elim}
use mathlib.Core.Bool.{Bool, true, false, ◌||◌}
use mathlib.Core.List.{List, [], ◌∷◌}
use Prim.Native.Nat.{ℕ, suc, ◌<◌}
use lib.ListN.{get_or}
use lib.Dec.{eqb}
use borrow.Author.Tests.{eqb-true}
use Rattle.std.specs.List.{list_any}
use Rattle.lists.proofs.Cases.{bool_cases, false_not_true}
use Rattle.srm_channels.specs.Channels.{is_event}

-- the events are looked through as `any` does
pub is_any : (id : ℕ) (events : List ℕ) → is_event id events ≡ list_any (λ event. eqb event id) events
unfolding is_event
is_any id [] = refl
is_any id (event ∷ events) = ap (λ (b : Bool). eqb event id || b) (is_any id events)

pub event_bound : (bound id : ℕ) (events : List ℕ) → ((k : ℕ) → get_or events k 0 < bound) → is_event id events ≡ true → id < bound
unfolding is_event
event_bound bound id [] below h = false_not_true h
event_bound bound id (event ∷ events) below h =
    ⊎_elim
    (λ (e : eqb event id ≡ true). rw (eqb-true event id e) at (below 0))
    (λ (e : eqb event id ≡ false). event_bound bound id events (λ k. below (suc k)) (rw e at h))
    (bool_cases (eqb event id))
