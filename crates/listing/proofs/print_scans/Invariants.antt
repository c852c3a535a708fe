-- The place is that of scan k's event.
use Rattle.std.proofs.Common.{◌≡◌, drop}
use Rattle.listing_tray.specs.Internal.{walked_place}
use Rattle.listing.proofs.print_scans.Given as goal

abbrev pub invariant-loop-k : goal.invariant-loop-k
invariant-loop-k g l = l.at ≡ walked_place l.h l.k (drop 32 l.tray)
