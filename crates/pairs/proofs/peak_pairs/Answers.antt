-- The pairs of a row's peaks are its pairs as floats.
use mathlib.Core.Path.{ap}
use lib.ListN.{length}
use Rattle.lists.specs.Left.{pairs_if_fit}
use Rattle.lists.proofs.Left.{left_same}
use Rattle.pairs.proofs.PeakPairs.{peak_pairs_are}
use Rattle.pairs.proofs.peak_pairs.Goals as goal

pub returns : goal.returns
returns c = let a = c.args in left_same (ap (pairs_if_fit (length a.mz.now) (length a.intensity.now)) (peak_pairs_are a.row a.run.now)) c.write_row.ensures
