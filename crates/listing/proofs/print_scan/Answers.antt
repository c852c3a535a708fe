-- A tray with a header has its 32 bytes, and `listing::print_scan` answers the place after its scan's event.
use Rattle.std.proofs.Common.{arith, ap, ◌∙◌, drop}
use Rattle.tray_header.proofs.Found.{whole}
use Rattle.tray_scan.specs.Scan.{end_in, place_or_end}
use Rattle.tray.proofs.Headers.{run_is}
use Rattle.listing_tray.specs.Internal.{walked_place}
use Rattle.listing.proofs.print_scan.Goals as goal

pub slice_bounds-list_scan-count : goal.slice_bounds-list_scan-count
slice_bounds-list_scan-count g c = omega (arith, (whole 4096 6 _ c.requires.h_value).size)

pub slice_bounds-list_scan-start : goal.slice_bounds-list_scan-start
slice_bounds-list_scan-start g c = omega (arith, (whole 4096 6 _ c.requires.h_value).size)

pub returns : goal.returns
unfolding walked_place
returns g c =
    let a = c.args in
    c.list_scan-listed.ensures.next_value
    ∙ ap (λ s. place_or_end (end_in a.h a.at s)) (run_is a.tray.now)
    ∙ ap (λ at. place_or_end (end_in a.h at (drop 32 a.tray.now))) c.requires.at_value
