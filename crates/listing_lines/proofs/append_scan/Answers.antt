-- `listing_lines::append_scan` meets its contract: a turn writes one pair's line after those of the pairs before.
use Prim.Native.Nat.{◌<◌, min}
use native.Mathlib.Omega.{arith}
use lib.ListN.{length}
use Rattle.listing_lines.proofs.Places.{append_none, append_then}
use Rattle.listing_lines.proofs.Listing.{turn, end, with_count}
use Rattle.listing_lines.proofs.append_scan.Goals as goal

pub loop-i-init : goal.loop-i-init
loop-i-init c = append_none _ _

pub loop-i-preserved : goal.loop-i-preserved
loop-i-preserved c =
    let a = c.args in
    let m = a.mz.now in
    let x = a.intensity.now in
    let here : c.loop-i.i < min (length m) (length x) = omega (arith, c.loop-i-test.true, c.pair_count-pairs.ensures) in
    turn m x c.loop-i.i _ c.loop-i.invariant (omega (arith, here)) (omega (arith, here)) c.append_pair-at.ensures

pub returns : goal.returns
returns c =
    let a = c.args in
    let m = a.mz.now in
    let x = a.intensity.now in
    let pairs = c.pair_count-pairs.ensures in
    let all = end m x c.loop-i.i c.loop-i.invariant (omega (arith, c.loop-i-test.false, pairs)) in
    rw (← with_count a.number a.coefficients m x _ pairs) (append_then c.append_three-at.ensures all)
