-- `pairs::count_pairs` meets its contract: a turn passes one chunk and counts its values (`Counting`).
use mathlib.Core.Path.{ap, sym, ◌∙◌}
use native.Mathlib.Omega.{arith}
use Rattle.refusal.specs.Number.{outcome_of}
use Rattle.packet_profile.proofs.Signals.{There, there, missing}
use Rattle.pairs.proofs.Counting.{counting_more, counting_short, counting_all}
use Rattle.pairs.proofs.count_pairs.Goals as goal
use Rattle.pairs.proofs.count_pairs.Goals.{In-Ok}

pub returns-in_default : goal.returns-in_default
returns-in_default c =
    let a = c.args in
    let l = c.loop in
    counting_short a.profile a.run.now l.invariant (missing a.profile.fudged a.run.now l.at (sym (ap outcome_of c.in_default.is) ∙ c.signal_at.ensures))

-- the chunk of this turn is there
chunk_there : (c : In-Ok) → let a = c.args in There a.profile.fudged a.run.now c.loop.at c.in-Ok.found
chunk_there c = there _ _ _ c.in-Ok.ensures

pub overflow_add-pairs : goal.overflow_add-pairs
overflow_add-pairs c = omega (arith, c.loop.invariant.fits, (chunk_there (goal.at.overflow_add-pairs c).In-Ok).starts, (chunk_there (goal.at.overflow_add-pairs c).In-Ok).ends)

pub loop-preserved : goal.loop-preserved
loop-preserved c =
    let a = c.args in
    let l = c.loop in
    counting_more a.profile a.run.now l.invariant (omega arith) (chunk_there (goal.at.loop-preserved c).In-Ok)

pub returns : goal.returns
returns c =
    let a = c.args in
    let l = c.loop in
    counting_all a.profile a.run.now l.invariant (omega (arith, l.invariant.passed))
