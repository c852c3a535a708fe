-- `srm_channels::count_channels` meets its contract. The invariant: `count` places below i hold a channel.
use mathlib.Core.Path.{sym, ◌∙◌}
use native.Mathlib.Omega.{arith}
use Rattle.srm_channels.specs.Channels.{channels_in}
use Rattle.srm_channels.proofs.Turns.{count_none, count_in, count_out, count_done}
use borrow.Author.Rules.{rules}
use Rattle.srm_channels.proofs.count_channels.Goals as goal
use Rattle.srm_channels.proofs.count_channels.Goals.{then-is_channel, else-is_channel}

pub loop-i-init : goal.loop-i-init
loop-i-init c = (count_none _ _ _, search rules)

pub loop-i-preserved : goal.loop-i-preserved
loop-i-preserved c =
    let inv = c.loop-i.invariant.0 in
    elim c.if-is_channel.branch [
      | then-is_channel w ↦ (rw w.count-is (count_in _ _ _ _ _ (sym c.is_channel.ensures ∙ w.if-is_channel.true) inv), omega (arith, inv.started))
      | else-is_channel w ↦ (rw w.count-is (count_out _ _ _ _ _ (sym c.is_channel.ensures ∙ w.if-is_channel.false) inv), omega (arith, inv.started))
    ]

pub returns : goal.returns
unfolding channels_in
returns c =
    count_done _ _ _ _ _ _ c.loop-i.invariant.0 (omega arith)
