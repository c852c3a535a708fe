-- `listing_lines::write_scan_lines` meets its contract: the room decides.
use mathlib.Core.Path.{sym, ◌∙◌}
use borrow.Author.Tests.{leb-true, leb-false}
use Rattle.lists.proofs.Left.{list_no_room, list_written}
use Rattle.listing_lines.proofs.Places.{append_front}
use Rattle.listing_lines.proofs.write_scan_lines.Goals as goal

pub returns-then-scan_fits : goal.returns-then-scan_fits
returns-then-scan_fits c =
    let room = leb-true _ _ (sym c.scan_fits.ensures ∙ c.if-scan_fits.true) in
    let w = append_front c.append_scan.ensures room in
    list_written _ _ (sym w.0) room w.1

pub returns-else-scan_fits : goal.returns-else-scan_fits
returns-else-scan_fits c = list_no_room _ _ (leb-false _ _ (sym c.scan_fits.ensures ∙ c.if-scan_fits.false))
