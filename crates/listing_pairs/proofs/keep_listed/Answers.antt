-- `listing_pairs::keep_listed` meets its contract. The invariant: those listed among the first i pairs stand at the fronts.
use mathlib.Core.Path.{sym, ap, ◌∙◌}
use Prim.Native.Nat.{◌<◌}
use native.Mathlib.Omega.{arith}
use lib.ListN.{length}
use Rattle.listing_pairs.specs.Listed.{is_listed}
use Rattle.listing_pairs.proofs.Keeping.{keep_none, next_mass, keep_in, keep_out, keep_all}
use Rattle.listing_pairs.proofs.keep_listed.Goals as goal
use Rattle.listing_pairs.proofs.keep_listed.Goals.{In-loop-i, then-is_listed, else-is_listed}

pub loop-i-init : goal.loop-i-init
loop-i-init c = (keep_none _ _ _ _, omega arith)

-- both slices have an i-th element
module _ (c : In-loop-i) where
  in_masses : c.loop-i.i < length c.loop-i.mz
  in_masses = omega (arith, c.loop-i-test.true, c.loop-i.invariant.0.same_masses, c.min-pairs.ensures)

  in_intensities : c.loop-i.i < length c.loop-i.intensity
  in_intensities = omega (arith, c.loop-i-test.true, c.loop-i.invariant.0.same_intensities, c.min-pairs.ensures)

pub loop-i-preserved : goal.loop-i-preserved
loop-i-preserved c =
    let inv = c.loop-i.invariant.0 in
    let says = sym (c.is_listed.ensures ∙ ap (is_listed c.args.format) (next_mass _ _ _ _ inv)) in
    let m = in_masses (goal.at.loop-i-preserved c).In-loop-i in
    let x = in_intensities (goal.at.loop-i-preserved c).In-loop-i in
    elim c.if-is_listed.branch [
      | then-is_listed w ↦ (rw (w.mz-is, w.intensity-is, w.kept-is) (keep_in _ _ _ _ inv (says ∙ w.if-is_listed.true) (omega (arith, m, inv.same_masses)) (omega (arith, x, inv.same_intensities))), omega arith)
      | else-is_listed w ↦ (rw (w.mz-is, w.intensity-is, w.kept-is) (keep_out _ _ _ _ inv (says ∙ w.if-is_listed.false)), omega arith)
    ]

pub returns : goal.returns
returns c =
    let all = keep_all _ _ _ _ c.loop-i.invariant.0 (omega (arith, c.loop-i-test.false, c.loop-i.invariant.1, c.min-pairs.ensures)) in
    record { value = all.0; intensity_after = all.1 }
