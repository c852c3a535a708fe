-- `listing_lines::scan_fits` meets its contract: the first line's length, and a pair's in each turn, until there are too many.
use mathlib.Core.Path.{◌≡◌}
use Prim.Native.Nat.{◌+◌}
use lib.ListN.{length}
use Rattle.listing_lines.specs.Lines.{scan_lines}
use Rattle.listing_lines.proofs.Listing.{lines_from}
use Rattle.listing_lines.proofs.scan_fits.Given as goal

-- what is added up, and what is still to come
abbrev pub invariant-loop-m : goal.invariant-loop-m
invariant-loop-m l = l.size + length (lines_from l.mz l.intensity l.m-index) ≡ length (scan_lines l.number l.coefficients l.mz l.intensity)
