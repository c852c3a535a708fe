-- `srm_transition::event_test` meets its contract: each way out says which tests held before it.
use mathlib.Core.Path.{sym, ◌∙◌}
use borrow.Author.Tests.{eq-eqb, ne_eqb}
use Rattle.srm_transition.specs.Transition.{event_test}
use Rattle.srm_transition.proofs.Constants.{is_10, is_3000}
use Rattle.srm_transition.proofs.event_test.Goals as goal

pub returns-then-not-is_near : goal.returns-then-not-is_near
unfolding event_test
returns-then-not-is_near c =
    simp (← c.f64_at-hi.ensures, sym c.is_near.ensures ∙ c.if-not-is_near.true)

pub returns-then-not-narrow_window : goal.returns-then-not-narrow_window
unfolding event_test
returns-then-not-narrow_window c =
    simp (← c.f64_at-hi.ensures, sym c.is_near.ensures ∙ c.if-not-is_near.false, ← c.f64_at.ensures, sym c.narrow_window.ensures ∙ c.if-not-narrow_window.true)

pub returns-then-u32_at-event : goal.returns-then-u32_at-event
unfolding event_test
returns-then-u32_at-event c =
    simp (← c.f64_at-hi.ensures, sym c.is_near.ensures ∙ c.if-not-is_near.false, ← c.f64_at.ensures, sym c.narrow_window.ensures ∙ c.if-not-narrow_window.false, ← c.u32_at.ensures, ne_eqb _ _ c.if-u32_at-event.true)

pub returns : goal.returns
unfolding event_test
returns c =
    simp (← is_10, ← is_3000, ← c.f64_at-hi.ensures, sym c.is_near.ensures ∙ c.if-not-is_near.false, ← c.f64_at.ensures, sym c.narrow_window.ensures ∙ c.if-not-narrow_window.false, ← c.u32_at.ensures, eq-eqb _ _ c.if-u32_at-event.false, ← c.f64_at-2.ensures)
    c.is_between.ensures
