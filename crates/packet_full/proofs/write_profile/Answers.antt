-- A packet without a profile has no chunks.
use Rattle.lists.proofs.Laws.{over_none}
use Rattle.packet_full.proofs.write_profile.Goals as goal

pub returns-in_default : goal.returns-in_default
returns-in_default c =
    let a = c.args in
    rw (c.in_default.is, over_none a.bins.now, over_none a.counts.now, over_none a.fudges.now, over_none a.signal.now)
