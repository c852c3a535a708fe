-- `noise::label_peaks` meets its contract. The invariant: the labels of the first i masses are written.
use Rattle.lists.proofs.Laws.{Filling}
use Rattle.noise.specs.Nodes.{nodes_of}
use Rattle.noise.proofs.Labelling.{label_at}
use Rattle.noise.proofs.label_peaks.Given as goal

abbrev pub invariant-loop-i : goal.invariant-loop-i
invariant-loop-i l = Filling (λ k. (label_at l.mz (nodes_of l.nodes) k).flag) l.n l.initial.flags l.flags l.i
    × Filling (λ k. (label_at l.mz (nodes_of l.nodes) k).noise) l.n l.initial.noise l.noise l.i
    × Filling (λ k. (label_at l.mz (nodes_of l.nodes) k).baseline) l.n l.initial.baseline l.baseline l.i
