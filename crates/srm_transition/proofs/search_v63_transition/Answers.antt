-- `srm_transition::search_v63_transition` meets its contract. The invariant: no place before j passed, so the search goes on from j.
use Rattle.std.specs.Prelude.{Some}
use mathlib.Core.Path.{refl, sym, ap, ◌∙◌}
use native.Mathlib.Omega.{arith}
use Rattle.srm_transition.specs.Transition.{search_v63_transition}
use Rattle.srm_transition.proofs.Places.{first_here, first_later, first_none}
use Rattle.srm_transition.proofs.search_v63_transition.Goals as goal

pub loop-j-init : goal.loop-j-init
unfolding search_v63_transition
loop-j-init c = refl

pub returns-then-v63_test : goal.returns-then-v63_test
returns-then-v63_test c =
    ap Some c.v63_at.ensures
    ∙ sym (c.loop-j.invariant ∙ first_here _ _ _ _ _ (omega arith) (sym c.v63_test.ensures ∙ c.if-v63_test.true))

pub loop-j-preserved : goal.loop-j-preserved
loop-j-preserved c =
    c.loop-j.invariant ∙ first_later _ _ _ _ _ (omega arith) (sym c.v63_test.ensures ∙ c.if-v63_test.false)

pub returns : goal.returns
returns c = sym (c.loop-j.invariant ∙ first_none _ _ _ _ _ (omega arith))
