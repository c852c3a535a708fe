use mathlib.Core.List.{[], ◌∷◌}
use lib.ListN.{length}
use mathlib.Core.Path.{sym, ◌∙◌}
use Rattle.lists.proofs.Left.{fits_true, pairs_no_room, pairs_written}
use Rattle.event_reactions.proofs.write_reactions.Goals as goal

pub write_source-requires : goal.write_source-requires
write_source-requires c =
    let a = c.args in
    let room = sym c.fits.ensures ∙ c.if-fits.true in
    let w = fits_true (c.count_reactions-count.result ∷ c.count_reactions-count.result ∷ []) (length a.precursors.now ∷ length a.energies.now ∷ []) room in
    rw (← c.count_reactions-count.ensures) record { source_in_bounds = w.0; source_in_bounds_2 = w.1.0 }

pub returns-then-fits : goal.returns-then-fits
returns-then-fits c =
    let room = sym c.fits.ensures ∙ c.if-fits.true in
    pairs_written _ (sym c.count_reactions-count.ensures) _ _ room c.write_source.ensures.precursors_after c.write_source.ensures.energies_after

pub returns : goal.returns
returns c =
    pairs_no_room _ (sym c.count_reactions-count.ensures) _ _ (sym c.fits.ensures ∙ c.if-fits.false)
