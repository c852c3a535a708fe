-- `calibration::write_chunk` meets its contract: the room is tested, and what is worked out once gives each bin's m/z.
use Rattle.std.proofs.Common.{◌+◌, ◌*◌, ◌∷◌, [], length, sym, ◌∙◌}
use Rattle.parser.specs.Parser.{f32_at}
use Rattle.lists.proofs.Left.{fits_true, pairs_no_room}
use Rattle.lists.proofs.Laws.{length-each}
use Rattle.calibration.specs.Convert.{mz_of, chunk_pairs}
use Rattle.calibration.proofs.Columns.{each_over}
use Rattle.calibration.proofs.Conversions.{mz_written}
use Rattle.calibration.proofs.write_chunk.Goals as goal

pub write_pairs-requires : goal.write_pairs-requires
write_pairs-requires c =
    let a = c.args in
    let w = fits_true (a.n ∷ a.n ∷ []) (length a.mz.now ∷ length a.intensity.now ∷ []) (sym c.fits.ensures ∙ c.if-fits.true) in
    record { n_in_bounds = w.0; n_in_bounds_2 = w.1.0 }

pub returns-then-fits : goal.returns-then-fits
unfolding chunk_pairs
returns-then-fits c =
    let a = c.args in
    let w = c.write_pairs.ensures in
    each_over (mz_of a.bins a.first_bin a.fudge a.coefficients.now) (λ k. f32_at a.run.now (a.at + k * 4)) a.n a.mz.now a.intensity.now
    (sym c.fits.ensures ∙ c.if-fits.true)
    (mz_written _ _ _ _ _ _ _ _ _ w.mz_after c.conversion_of.ensures c.chunk_bins.ensures) w.intensity_after

pub returns : goal.returns
unfolding chunk_pairs
returns c = pairs_no_room _ (length-each _ _) _ _ (sym c.fits.ensures ∙ c.if-fits.false)
