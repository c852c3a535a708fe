-- The peaks of a row are its pairs.
use mathlib.Core.Path.{ap}
use lib.ListN.{length}
use Rattle.lists.specs.Left.{pairs_if_fit}
use Rattle.lists.proofs.Left.{left_same}
use Rattle.peaks.proofs.Columns.{row_peaks_are}
use Rattle.peaks.proofs.write_peaks.Goals as goal

pub returns : goal.returns
returns c = let a = c.args in left_same (ap (pairs_if_fit (length a.mz.now) (length a.abundance.now)) (row_peaks_are a.row a.run.now)) c.write_row.ensures
