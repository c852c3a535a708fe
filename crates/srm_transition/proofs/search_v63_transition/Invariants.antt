-- `srm_transition::search_v63_transition` meets its contract. The invariant: no place before j passed, so the search goes on from j.
use Rattle.std.specs.Prelude.{Some, None}
use mathlib.Core.Path.{◌≡◌}
use Prim.Native.Nat.{◌-◌}
use lib.ListN.{length}
use Rattle.srm_transition.specs.Transition.{v63_test, v63_at, search_v63_transition}
use Rattle.srm_transition.proofs.Places.{first}
use Rattle.srm_transition.proofs.search_v63_transition.Given as goal

abbrev pub invariant-loop-j : goal.invariant-loop-j
invariant-loop-j l =
    search_v63_transition l.q3_center_target l.data
    ≡ first (v63_test l.q3_center_target l.data) (λ at. Some (v63_at l.data at)) None l.j (length l.data - 32)
