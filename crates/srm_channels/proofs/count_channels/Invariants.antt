-- `srm_channels::count_channels` meets its contract. The invariant: `count` places below i hold a channel.
use Prim.Native.Nat.{◌-◌, ◌≤◌}
use Rattle.srm_channels.specs.Channels.{channel_test, channel_at}
use Rattle.srm_channels.proofs.Turns.{Counted}
use Rattle.srm_channels.proofs.count_channels.Given as goal

abbrev pub invariant-loop-i : goal.invariant-loop-i
invariant-loop-i l = Counted (channel_test l.events l.data) (channel_at l.data) 24 l.count l.i × (l.i - 24 ≤ l.i-end - 24)
