-- `listing_lines::scan_fits` meets its contract: the first line's length, and a pair's in each turn, until there are too many.
use mathlib.Core.Path.{◌≡◌, ap, ◌∙◌}
use Prim.Native.Nat.{ℕ, ◌<◌, ◌≤◌, min}
use native.Mathlib.Omega.{arith}
use lib.Ieee.{Float, nan}
use lib.ListN.{length, length-take}
use lib.Seq.{get_or-take}
use Rattle.listing_lines.specs.Lines.{mass_text, scan_lines}
use Rattle.listing_lines.proofs.Room.{mass_most}
use Rattle.listing_lines.proofs.Listing.{size_turn, size_end, first_size}
use Rattle.listing_lines.proofs.scan_fits.Goals as goal

pub loop-m-init : goal.loop-m-init
loop-m-init c =
    let a = c.args in
    first_size a.number a.coefficients a.mz.now a.intensity.now _ c.pair_count-pairs.ensures c.append_three-size.ensures (omega arith) (omega arith) (omega arith)

-- a mass is short
few : {n : ℕ} (mz : Float) → n ≡ length (mass_text mz) → n ≤ 9
few mz e = omega (arith, mass_most mz)

pub overflow_add-size : goal.overflow_add-size
overflow_add-size c = let n = few _ c.mass_size.ensures in omega arith

pub overflow_add-size-in-loop-m : goal.overflow_add-size-in-loop-m
overflow_add-size-in-loop-m c = let n = few _ c.mass_size.ensures in omega arith

pub loop-m-preserved : goal.loop-m-preserved
loop-m-preserved c =
    let a = c.args in
    let m = a.mz.now in
    let x = a.intensity.now in
    let i = c.loop-m.m-index in
    let here : i < min (length m) (length x) = omega (arith, c.pair_count-pairs.ensures, length-take c.pair_count-pairs.result m) in
    let size = c.mass_size.ensures ∙ ap (λ (k : Float). length (mass_text k)) (get_or-take c.pair_count-pairs.result m i nan (omega (arith, c.pair_count-pairs.ensures, here))) in
    let more = size_turn m x i nan size (omega (arith, here)) (omega (arith, here)) in
    omega (arith, more)

pub returns : goal.returns
returns c =
    let a = c.args in
    let none = size_end a.mz.now a.intensity.now c.loop-m.m-index (omega (arith, c.pair_count-pairs.ensures, length-take c.pair_count-pairs.result a.mz.now)) in
    let all : c.loop-m.size ≡ length (scan_lines a.number a.coefficients a.mz.now a.intensity.now) = omega (arith, none) in
    rw all
