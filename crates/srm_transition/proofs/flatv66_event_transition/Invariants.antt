-- `srm_transition::flatv66_event_transition` meets its contract. The invariant: no place before i passed, so the search goes on from i.
use Rattle.std.specs.Prelude.{Some, None}
use mathlib.Core.Path.{◌≡◌}
use Prim.Native.Nat.{◌-◌}
use lib.ListN.{length}
use Rattle.srm_transition.specs.Transition.{event_test, event_transition_at, flatv66_event_transition}
use Rattle.srm_transition.proofs.Places.{first}
use Rattle.srm_transition.proofs.flatv66_event_transition.Given as goal

abbrev pub invariant-loop-i : goal.invariant-loop-i
invariant-loop-i l =
    flatv66_event_transition l.event l.q3_hi l.data
    ≡ first (event_test l.event l.q3_hi l.data) (λ at. Some (event_transition_at l.data at)) None l.i (length l.data - 8)
