-- `srm_transition::flatv66_event_transition` meets its contract. The invariant: no place before i passed, so the search goes on from i.
use mathlib.Core.Path.{refl, sym, ◌∙◌}
use native.Mathlib.Omega.{arith}
use Rattle.srm_transition.specs.Transition.{flatv66_event_transition}
use Rattle.srm_transition.proofs.Places.{first_here, first_later, first_none}
use Rattle.srm_transition.proofs.flatv66_event_transition.Goals as goal

pub loop-i-init : goal.loop-i-init
unfolding flatv66_event_transition
loop-i-init c = refl

pub returns-then-event_test : goal.returns-then-event_test
returns-then-event_test c =
    rw c.u64_at.ensures (sym (c.loop-i.invariant ∙ first_here _ _ _ _ _ (omega arith) (sym c.event_test.ensures ∙ c.if-event_test.true)))

pub loop-i-preserved : goal.loop-i-preserved
loop-i-preserved c =
    c.loop-i.invariant ∙ first_later _ _ _ _ _ (omega arith) (sym c.event_test.ensures ∙ c.if-event_test.false)

pub returns : goal.returns
returns c = sym (c.loop-i.invariant ∙ first_none _ _ _ _ _ (omega arith))
