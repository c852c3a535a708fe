-- `srm_channels::write_channels` meets its contract. The invariant: the channels at places below i are written, `written` of them.
use mathlib.Core.Path.{◌≡◌, ap, sym, ◌∙◌}
use mathlib.Core.Bool.{true}
use Prim.Native.Nat.{◌<◌}
use native.Mathlib.Omega.{arith}
use lib.ListN.{length}
use Rattle.srm_channels.specs.Channels.{channels_in}
use Rattle.srm_channels.proofs.Turns.{count_none, count_in, count_out, count_room, write_none, write_in, write_out, write_done}
use Rattle.srm_channels.proofs.Answers.{channel_event}
use borrow.Author.Rules.{rules}
use Rattle.srm_channels.proofs.write_channels.Goals as goal
use Rattle.srm_channels.proofs.write_channels.Goals.{After-is_channel, then-is_channel, else-is_channel}

-- at a channel there is one more than were written, so each slice has a place for it
room : (c : After-is_channel) → c.is_channel.result ≡ true
    → let l = c.loop-i in
    (l.written < length l.channel_events) × (l.written < length l.q1) × (l.written < length l.collision_energy)
unfolding channels_in
room c held =
    let pre = c.requires in
    let more : c.loop-i.written < length (channels_in c.args.events.now c.args.«data».now) = count_room _ _ _ _ _ _ (sym c.is_channel.ensures ∙ held) c.loop-i.invariant.0 (omega arith) in
    (omega (arith, more, pre.data_in_bounds, c.loop-i.invariant.1.same), omega (arith, more, pre.data_in_bounds_2, c.loop-i.invariant.2.same), omega (arith, more, pre.data_in_bounds_3, c.loop-i.invariant.3.same))

pub loop-i-init : goal.loop-i-init
loop-i-init c = (count_none _ _ _, write_none _ _ _ _ _, write_none _ _ _ _ _, write_none _ _ _ _ _, search rules)

pub channel_at-channel-requires : goal.channel_at-channel-requires
channel_at-channel-requires c =
    record { le_i = (omega (arith, c.loop-i.invariant.0.started), omega arith); i_bound = channel_event 65536 _ _ _ (λ k. omega (arith, c.type_inv.events k)) (sym c.is_channel.ensures ∙ c.if-is_channel.true) }

pub bounds-channel_events-written : goal.bounds-channel_events-written
bounds-channel_events-written c = (room (goal.at.bounds-channel_events-written c).After-is_channel c.if-is_channel.true).0

pub offset_bounds-q1-written : goal.offset_bounds-q1-written
offset_bounds-q1-written c = let r = (room (goal.at.offset_bounds-q1-written c).After-is_channel c.if-is_channel.true).1 in search rules

pub bounds-q1-written : goal.bounds-q1-written
bounds-q1-written c = (room (goal.at.bounds-q1-written c).After-is_channel c.if-is_channel.true).1

pub offset_bounds-collision_energy-written : goal.offset_bounds-collision_energy-written
offset_bounds-collision_energy-written c = let r = (room (goal.at.offset_bounds-collision_energy-written c).After-is_channel c.if-is_channel.true).2 in search rules

pub bounds-collision_energy-written : goal.bounds-collision_energy-written
bounds-collision_energy-written c = (room (goal.at.bounds-collision_energy-written c).After-is_channel c.if-is_channel.true).2

pub loop-i-preserved : goal.loop-i-preserved
loop-i-preserved c =
    let inv = c.loop-i.invariant in
    let before = (goal.at.loop-i-preserved c).After-is_channel in
    elim c.if-is_channel.branch [
      | then-is_channel w ↦
          let t = sym c.is_channel.ensures ∙ w.if-is_channel.true in
          let r = room before w.if-is_channel.true in
          let channel = w.channel_at-channel.ensures in (
            rw w.written-is (count_in _ _ _ _ _ t inv.0),
            rw w.channel_events-is (write_in _ _ _ _ _ _ _ _ _ t inv.0 (ap (λ k. k.event) channel) (omega (arith, r.0, inv.1.same)) inv.1),
            rw w.q1-is (write_in _ _ _ _ _ _ _ _ _ t inv.0 (ap (λ k. k.q1) channel) (omega (arith, r.1, inv.2.same)) inv.2),
            rw w.collision_energy-is (write_in _ _ _ _ _ _ _ _ _ t inv.0 (ap (λ k. k.collision_energy) channel) (omega (arith, r.2, inv.3.same)) inv.3),
            omega (arith, inv.0.started),
          )
      | else-is_channel w ↦
          let t = sym c.is_channel.ensures ∙ w.if-is_channel.false in
          let s = inv.0.started in (
            rw w.written-is (count_out _ _ _ _ _ t inv.0),
            rw w.channel_events-is (write_out _ _ _ _ _ _ _ t s inv.1),
            rw w.q1-is (write_out _ _ _ _ _ _ _ t s inv.2),
            rw w.collision_energy-is (write_out _ _ _ _ _ _ _ t s inv.3),
            omega (arith, inv.0.started),
          )
    ]

pub returns : goal.returns
unfolding channels_in
returns c =
    let l = c.loop-i in record { channel_events_after = write_done _ _ _ _ _ _ _ _ l.invariant.1 (omega arith); q1_after = write_done _ _ _ _ _ _ _ _ l.invariant.2 (omega arith); collision_energy_after = write_done _ _ _ _ _ _ _ _ l.invariant.3 (omega arith) }
