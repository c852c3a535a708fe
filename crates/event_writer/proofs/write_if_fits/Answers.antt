-- The lent slices are tested, and then the lists are written.
use mathlib.Core.Path.{◌≡◌, sym, ◌∙◌}
use mathlib.Core.Bool.{true}
use mathlib.Core.List.{[], ◌∷◌}
use lib.ListN.{length}
use Rattle.lists.specs.Left.{fits}
use Rattle.event_writer.proofs.Writing.{no_room, holds_precursors, event_written}
use Rattle.event_writer.proofs.write_if_fits.Goals as goal
use Rattle.event_writer.proofs.write_if_fits.Goals.{Then-fits}

-- the test is one of all four
room : (c : Then-fits)
    → let a = c.args in
    fits (length a.bytes.now ∷ c.count_reactions-count.result ∷ c.count_reactions-count.result ∷ a.j.coefficients ∷ [])
    (length a.preamble.now ∷ length a.precursors.now ∷ length a.energies.now ∷ length a.coefficients.now ∷ []) ≡ true
room c =
    sym c.fits.ensures ∙ c.if-fits.true

pub write_lists-requires : goal.write_lists-requires
write_lists-requires c =
    rw (← c.count_reactions-count.ensures) (room (goal.at.write_lists-requires c).Then-fits)

pub slice_bounds-activation-end : goal.slice_bounds-activation-end
slice_bounds-activation-end c =
    holds_precursors _ _ _ _ _ _ _ c.count_reactions-count.ensures 0 (room (goal.at.slice_bounds-activation-end c).Then-fits) c.write_lists.ensures

pub returns-then-fits : goal.returns-then-fits
returns-then-fits c =
    event_written _ _ _ _ _ _ _ c.count_reactions-count.ensures _ (room (goal.at.returns-then-fits c).Then-fits) c.write_lists.ensures _ (rw (c.decode.ensures, c.activation.ensures))

pub returns : goal.returns
returns c =
    no_room _ _ _ _ _ _ _ c.count_reactions-count.ensures _
    (sym c.fits.ensures ∙ c.if-fits.false)
