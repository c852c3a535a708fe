-- The first event stands where the header says.
use Rattle.std.proofs.Common.{refl}
use Rattle.listing_tray.specs.Internal.{walked_place}
use Rattle.listing.proofs.print_scans.Goals as goal

pub loop-k-init : goal.loop-k-init
unfolding walked_place
loop-k-init g c = refl
