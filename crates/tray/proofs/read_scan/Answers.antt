-- A scan from the place of event k is the scan, and where there is none, one from after the end.
use mathlib.Core.Path.{ap, ◌∙◌}
use native.Mathlib.Omega.{arith}
use Prim.Native.Nat.{◌^◌, ◌<◌}
use lib.ListN.{length}
use Rattle.lists.proofs.Left.{left_same}
use Rattle.tray_scan.specs.Scan.{place_or_end}
use Rattle.tray.proofs.Walk.{from_either}
use borrow.Author.Rules.{rules}
use Rattle.tray.proofs.read_scan.Goals as goal
use Rattle.tray.proofs.read_scan.Goals.{Start}

few : (c : Start) → length c.args.tray.now < 2 ^ 63
few c = omega arith

pub returns : goal.returns
returns c =
    let a = c.args in
    left_same (from_either 4096 6 a.tray.now _ a.k (few (goal.at.returns c).Start) (c.place_or_end-at.ensures ∙ ap place_or_end c.event_of.ensures)) c.read_scan_from.ensures
