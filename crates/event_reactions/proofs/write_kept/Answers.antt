-- The invariant: those kept of the first i records are written, `count` of them.
use mathlib.Core.Path.{◌≡◌, sym, ◌∙◌}
use mathlib.Core.Bool.{true}
use Prim.Native.Nat.{◌<◌}
use native.Mathlib.Omega.{arith}
use lib.ListN.{length}
use Rattle.event_reactions.specs.Reactions.{kept}
use Rattle.event_reactions.proofs.Kept.{kept_room, count_none, count_in, count_out, write_none, write_in, write_out}
use Rattle.event_reactions.proofs.write_kept.Goals as goal
use Rattle.event_reactions.proofs.write_kept.Goals.{then-acceptable, else-acceptable}
use Rattle.event_reactions.proofs.write_kept.Goals.{After-acceptable}

pub loop-i-init : goal.loop-i-init
loop-i-init c = (count_none _ _, write_none _ _ _ _)

-- there is room for a record that is kept
module _ (c : After-acceptable) (taken : c.acceptable.result ≡ true) where
  next_fits : c.loop-i.count < length (kept c.args.body.now c.args.from c.args.n)
  next_fits =
      let x = c.args in
      rw c.loop-i.invariant.0.counted
      (kept_room x.body.now x.from c.loop-i.i x.n (sym (rw c.u64_at-precursor.ensures at c.acceptable.ensures) ∙ taken) c.loop-i-test.true)

pub bounds-precursors-k : goal.bounds-precursors-k
bounds-precursors-k c = omega (arith, next_fits (goal.at.bounds-precursors-k c).After-acceptable c.if-acceptable.true, c.loop-i.invariant.1.same_precursors)

pub bounds-energies-k : goal.bounds-energies-k
bounds-energies-k c = omega (arith, next_fits (goal.at.bounds-energies-k c).After-acceptable c.if-acceptable.true, c.loop-i.invariant.1.same_energies)

pub loop-i-preserved : goal.loop-i-preserved
loop-i-preserved c =
    let inv = c.loop-i.invariant in
    let bits = c.u64_at-precursor.ensures in
    let says = sym (rw bits at c.acceptable.ensures) in
    elim c.if-acceptable.branch [
      | then-acceptable w ↦
          let h = says ∙ w.if-acceptable.true in
          let fits = next_fits (goal.at.loop-i-preserved c).After-acceptable w.if-acceptable.true in
          let stored = write_in _ _ _ _ _ _ _ _ h inv.0.counted (omega arith) (omega arith) inv.1 in
          (rw w.count-is (count_in _ _ _ _ h inv.0), rw (w.precursors-is, w.energies-is, bits, w.u64_at.ensures) stored)
      | else-acceptable w ↦
          let h = says ∙ w.if-acceptable.false in
          (rw w.count-is (count_out _ _ _ _ h inv.0), rw (w.precursors-is, w.energies-is) (write_out _ _ _ _ _ _ _ h inv.1))
    ]

pub returns : goal.returns
returns c =
    let l = c.loop-i in
    let all : l.i ≡ c.args.n = omega arith in
    record { value = rw all at l.invariant.0.counted; precursors_after = rw all at l.invariant.1.precursors_written; energies_after = rw all at l.invariant.1.energies_written }
