-- `pairs::write_pairs` meets its contract: a turn writes one chunk's pairs through the tails of both slices (`Writing`).
use Rattle.pairs.proofs.Writing.{Writing}
use Rattle.pairs.proofs.write_pairs.Given as goal

abbrev pub invariant-loop : goal.invariant-loop
invariant-loop l = Writing l.fn.profile l.coefficients l.run l.initial.mz l.initial.intensity l.mz l.intensity l.n l.counter l.at
