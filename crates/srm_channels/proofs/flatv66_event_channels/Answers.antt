-- `srm_channels::flatv66_event_channels` meets its contract: both ways out are one law each.
use mathlib.Core.Path.{◌≡◌, sym, ◌∙◌}
use Rattle.srm_channels.proofs.Answers.{room_for, channels_room, channels_refused, channels_written}
use Rattle.srm_channels.proofs.flatv66_event_channels.Goals as goal
use Rattle.srm_channels.proofs.flatv66_event_channels.Goals.{After-fits}

-- what the room test says
judged : (c : After-fits)
    → let a = c.args in
    c.fits.result ≡ room_for a.events.now a.«data».now a.channel_events.now a.q1.now a.collision_energy.now
judged c =
    c.fits.ensures ∙ rw c.count_channels-count.ensures

pub write_channels-requires : goal.write_channels-requires
write_channels-requires c =
    let a = c.args in
    let w = channels_room a.events.now a.«data».now a.channel_events.now a.q1.now a.collision_energy.now (sym (judged (goal.at.write_channels-requires c).After-fits) ∙ c.if-fits.true) in
    record { data_in_bounds = w.0; data_in_bounds_2 = w.1; data_in_bounds_3 = w.2 }

pub returns-then-fits : goal.returns-then-fits
returns-then-fits c =
    rw c.count_channels-count.ensures
    (channels_written _ _ _ _ _ (sym (judged (goal.at.returns-then-fits c).After-fits) ∙ c.if-fits.true) _ _ _ c.write_channels.ensures.channel_events_after c.write_channels.ensures.q1_after c.write_channels.ensures.collision_energy_after)

pub returns : goal.returns
returns c = channels_refused _ _ _ _ _ (sym (judged (goal.at.returns c).After-fits) ∙ c.if-fits.false)
