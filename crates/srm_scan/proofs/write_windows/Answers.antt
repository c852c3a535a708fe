-- `srm_scan::write_windows` meets its contract: the room is tested, and then both ends are copied.
use mathlib.Core.Path.{sym, ◌∙◌}
use Rattle.lists.proofs.Left.{pairs_no_room, pairs_written}
use Rattle.srm_scan.proofs.Room.{length-windows, low_column, high_column}
use Rattle.srm_scan.proofs.write_windows.Goals as goal

pub returns-then-fits : goal.returns-then-fits
returns-then-fits c =
    let room = sym c.fits.ensures ∙ c.if-fits.true in
    pairs_written _ (length-windows _ _ _) _ _ room
    (low_column _ _ _ _ _ c.copy.ensures.stands)
    (high_column _ _ _ _ _ c.copy-then-fits.ensures.stands)

pub returns : goal.returns
returns c =
    pairs_no_room _ (length-windows _ _ _) _ _ (sym c.fits.ensures ∙ c.if-fits.false)
