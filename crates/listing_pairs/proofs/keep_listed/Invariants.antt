-- `listing_pairs::keep_listed` meets its contract. The invariant: those listed among the first i pairs stand at the fronts.
use Prim.Native.Nat.{◌≤◌}
use lib.Ieee.{nan}
use Rattle.listing_pairs.proofs.Keeping.{Keeping}
use Rattle.listing_pairs.proofs.keep_listed.Given as goal

abbrev pub invariant-loop-i : goal.invariant-loop-i
invariant-loop-i l = Keeping l.format l.initial.mz l.initial.intensity nan l.mz l.intensity l.kept l.i × (l.i ≤ l.pairs)
