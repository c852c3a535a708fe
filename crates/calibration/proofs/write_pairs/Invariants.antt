-- `calibration::write_pairs` meets its contract. The invariant: the first i pairs are written, and the place is that of the
-- next signal.
use Rattle.std.proofs.Common.{◌≡◌, ◌+◌, ◌-◌, ◌*◌, ◌^◌, min}
use Rattle.parser.specs.Parser.{f32_at}
use Rattle.lists.proofs.Laws.{Filling}
use Rattle.calibration.specs.Internal.{mz_on}
use Rattle.calibration.proofs.write_pairs.Given as goal

abbrev pub invariant-loop-i : goal.invariant-loop-i
invariant-loop-i l = Filling (mz_on l.bins l.conversion) l.n l.initial.mz l.mz l.i × Filling (λ k. f32_at l.run (l.at + k * 4)) l.n l.initial.intensity l.intensity l.i × (l.place ≡ min (l.at + l.i * 4) (2 ^ 64 - 1))
