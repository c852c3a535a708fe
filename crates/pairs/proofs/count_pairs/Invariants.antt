-- `pairs::count_pairs` meets its contract: a turn passes one chunk and counts its values (`Counting`).
use Rattle.pairs.proofs.Counting.{Counting}
use Rattle.pairs.proofs.count_pairs.Given as goal

abbrev pub invariant-loop : goal.invariant-loop
invariant-loop l = Counting l.profile l.run l.counter l.at l.pairs
