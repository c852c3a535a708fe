-- `pairs::to_mz_intensity` meets its contract: the room is tested, and then the pairs are written.
use mathlib.Core.Path.{sym, ◌∙◌}
use mathlib.Core.List.{[], ◌∷◌}
use lib.ListN.{length}
use Rattle.lists.proofs.Left.{fits_true, pairs_no_room}
use Rattle.calibration.proofs.Columns.{pairs_over}
use Rattle.pairs.proofs.Writing.{counted}
use Rattle.pairs.proofs.to_mz_intensity.Goals as goal

pub write_pairs-requires : goal.write_pairs-requires
write_pairs-requires c =
    let a = c.args in
    let n = c.count_pairs-pairs.result in
    let w = fits_true (n ∷ n ∷ []) (length a.mz.now ∷ length a.intensity.now ∷ []) (sym c.fits.ensures ∙ c.if-fits.true) in
    rw (← c.count_pairs-pairs.ensures) record { run_in_bounds = w.0; run_in_bounds_2 = w.1.0 }

pub returns-then-fits : goal.returns-then-fits
returns-then-fits c =
    let a = c.args in
    let w = c.write_pairs.ensures in
    pairs_over _ _ _ (counted a.profile a.coefficients.now a.run.now ∙ sym c.count_pairs-pairs.ensures)
    (sym c.fits.ensures ∙ c.if-fits.true) w.mz_after w.intensity_after

pub returns : goal.returns
returns c =
    let a = c.args in
    pairs_no_room _ (counted a.profile a.coefficients.now a.run.now ∙ sym c.count_pairs-pairs.ensures) _ _
    (sym c.fits.ensures ∙ c.if-fits.false)
