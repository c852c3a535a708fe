-- `srm_channels::is_channel` meets its contract: each way out says which tests held before it.
use mathlib.Core.Path.{sym, ◌∙◌}
use Rattle.srm_transition.proofs.Constants.{is_10, is_3000}
use Rattle.srm_channels.specs.Channels.{channel_test}
use Rattle.srm_channels.proofs.Constants.{is_0, is_5, is_500, is_2000}
use Rattle.srm_channels.proofs.is_channel.Goals as goal

pub returns-then-not-narrow_window : goal.returns-then-not-narrow_window
unfolding channel_test
returns-then-not-narrow_window c =
    simp (← c.f64_at-hi.ensures, ← c.f64_at.ensures, sym c.narrow_window.ensures ∙ c.if-not-narrow_window.true)

pub returns-then-not-from_up_to : goal.returns-then-not-from_up_to
unfolding channel_test
returns-then-not-from_up_to c =
    simp (← is_5, ← is_2000, ← c.f64_at-hi.ensures, ← c.f64_at.ensures, sym c.narrow_window.ensures ∙ c.if-not-narrow_window.false, sym c.from_up_to.ensures ∙ c.if-not-from_up_to.true)

pub returns-then-not-is_event : goal.returns-then-not-is_event
unfolding channel_test
returns-then-not-is_event c =
    simp (← is_5, ← is_2000, ← c.f64_at-hi.ensures, ← c.f64_at.ensures, sym c.narrow_window.ensures ∙ c.if-not-narrow_window.false, sym c.from_up_to.ensures ∙ c.if-not-from_up_to.false, ← c.u32_at.ensures, sym c.is_event.ensures ∙ c.if-not-is_event.true)

pub returns-then-not-from_up_to-2 : goal.returns-then-not-from_up_to-2
unfolding channel_test
returns-then-not-from_up_to-2 c =
    simp (← is_5, ← is_2000, ← is_10, ← is_3000, ← c.f64_at-hi.ensures, ← c.f64_at.ensures, sym c.narrow_window.ensures ∙ c.if-not-narrow_window.false, sym c.from_up_to.ensures ∙ c.if-not-from_up_to.false, ← c.u32_at.ensures, sym c.is_event.ensures ∙ c.if-not-is_event.false, ← c.f64_at-2.ensures, sym c.from_up_to-2.ensures ∙ c.if-not-from_up_to-2.true)

pub returns : goal.returns
unfolding channel_test
returns c =
    simp (← is_0, ← is_500, ← is_5, ← is_2000, ← is_10, ← is_3000, ← c.f64_at-hi.ensures, ← c.f64_at.ensures, sym c.narrow_window.ensures ∙ c.if-not-narrow_window.false, sym c.from_up_to.ensures ∙ c.if-not-from_up_to.false, ← c.u32_at.ensures, sym c.is_event.ensures ∙ c.if-not-is_event.false, ← c.f64_at-2.ensures, sym c.from_up_to-2.ensures ∙ c.if-not-from_up_to-2.false, ← c.f64_at-3.ensures)
    c.from_up_to-3.ensures
