-- `packet_profile::signal_at` meets its contract: each way out is decided by the tests that led there.
use native.Mathlib.Omega.{arith}
use Rattle.packet_profile.proofs.Signals.{no_head, no_signal, signal_there}
use Rattle.packet_profile.proofs.signal_at.Goals as goal

pub returns-then-remaining-head : goal.returns-then-remaining-head
returns-then-remaining-head c =
    let a = c.args in
    no_head a.fudged a.run.now a.at (omega (arith, c.head_size-head.ensures.value))

pub returns-then-remaining-points : goal.returns-then-remaining-points
returns-then-remaining-points c =
    let a = c.args in
    let z = c.head_size-head.ensures.value in
    no_signal a.fudged a.run.now a.at c.u32_at-points.result c.u32_at-points.ensures (omega (arith, z)) (rw (← z) (omega arith))

pub returns : goal.returns
returns c =
    let a = c.args in
    let z = c.head_size-head.ensures.value in
    rw z (signal_there a.fudged a.run.now a.at c.u32_at-points.result c.u32_at-points.ensures (omega (arith, z)) (rw (← z) (omega arith)))
