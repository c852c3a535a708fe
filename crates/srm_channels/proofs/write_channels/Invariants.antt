-- `srm_channels::write_channels` meets its contract. The invariant: the channels at places below i are written, `written` of them.
use Prim.Native.Nat.{◌-◌, ◌≤◌}
use Rattle.srm_channels.specs.Channels.{channel_test, channel_at}
use Rattle.srm_channels.proofs.Turns.{Counted, Written}
use Rattle.srm_channels.proofs.write_channels.Given as goal

abbrev pub invariant-loop-i : goal.invariant-loop-i
invariant-loop-i l = Counted (channel_test l.events l.data) (channel_at l.data) 24 l.written l.i
    × Written (channel_test l.events l.data) (channel_at l.data) 24 (λ c. c.event) l.initial.channel_events l.channel_events l.i
    × Written (channel_test l.events l.data) (channel_at l.data) 24 (λ c. c.q1) l.initial.q1 l.q1 l.i
    × Written (channel_test l.events l.data) (channel_at l.data) 24 (λ c. c.collision_energy) l.initial.collision_energy l.collision_energy l.i
    × (l.i - 24 ≤ l.i-end - 24)
