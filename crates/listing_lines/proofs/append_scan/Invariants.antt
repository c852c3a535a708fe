-- `listing_lines::append_scan` meets its contract: a turn writes one pair's line after those of the pairs before.
use Rattle.listing_lines.specs.Internal.{Appends}
use Rattle.listing_lines.proofs.Listing.{lines_to}
use Rattle.listing_lines.proofs.append_scan.Given as goal

abbrev pub invariant-loop-i : goal.invariant-loop-i
invariant-loop-i l = Appends (lines_to l.mz l.intensity l.i) l.initial.at l.initial.out l.at l.out
