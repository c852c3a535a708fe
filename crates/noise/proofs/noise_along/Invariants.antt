-- `noise::noise_along` meets its contract. The invariant: what is left to work out is `answer_from` at the k-th node.
use mathlib.Core.Path.{◌≡◌}
use Prim.Native.Nat.{◌≤◌, ◌/◌}
use lib.ListN.{length}
use Rattle.noise.specs.Nodes.{nodes_of}
use Rattle.noise.specs.Line.{noise_of}
use Rattle.noise.proofs.Walk.{answer_from}
use Rattle.noise.proofs.noise_along.Given as goal

abbrev pub invariant-loop-k : goal.invariant-loop-k
invariant-loop-k l = (1 ≤ l.k) × (l.k ≤ l.count) × (noise_of l.x (nodes_of l.nodes) ≡ answer_from l.x l.nodes (length l.nodes / 12) l.k)
