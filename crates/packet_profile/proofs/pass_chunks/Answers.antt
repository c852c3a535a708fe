-- `packet_profile::pass_chunks` meets its contract: a turn passes one chunk and counts its values (`WalkInvariant`). Four times the
-- values are at most the place, so their number fits.
use mathlib.Core.Path.{◌≡◌, ap, sym, ◌∙◌}
use native.Mathlib.Omega.{arith}
use Rattle.refusal.specs.Number.{outcome_of}
use Rattle.parser.proofs.Walk.{walk_more}
use Rattle.packet_profile.specs.Profile.{points as points_of, chunk}
use Rattle.packet_profile.proofs.Chunks.{list_short, list_all}
use Rattle.packet_profile.proofs.Signals.{There, there, missing, missing_is, points_at}
use Rattle.std.proofs.lemmas.Result.{err_from_is_err_and}
use borrow.Author.Rules.{rules}
use Rattle.packet_profile.proofs.pass_chunks.Goals as goal
use Rattle.packet_profile.proofs.pass_chunks.Goals.{In_ok-signal}

pub returns-in_err-signal : goal.returns-in_err-signal
returns-in_err-signal c =
    let a = c.args in
    let l = c.loop in
    let p = err_from_is_err_and c.from_residual.result c.from_residual.ensures.1 in
    let e = sym (ap outcome_of c.in_err-signal.was) ∙ c.signal_at.ensures in
    rw (p.1, p.2, missing_is a.fudged a.run.now l.at _ e)
    (list_short a.fudged a.count a.run.now a.start l.counter l.at l.points (omega arith) l.invariant.2 (missing a.fudged a.run.now l.at e))

-- the chunk of this turn is there
chunk_there : (c : In_ok-signal) → let a = c.args in There a.fudged a.run.now c.loop.at c.in_ok-signal.signal
chunk_there c = there _ _ _ (sym (ap outcome_of c.in_ok-signal.was) ∙ c.signal_at.ensures)

pub overflow_add-points : goal.overflow_add-points
overflow_add-points c = omega (arith, c.loop.invariant.1, (chunk_there (goal.at.overflow_add-points c).In_ok-signal).starts, (chunk_there (goal.at.overflow_add-points c).In_ok-signal).ends)

pub loop-preserved : goal.loop-preserved
loop-preserved c =
    let a = c.args in
    let l = c.loop in
    let t = chunk_there (goal.at.loop-preserved c).In_ok-signal in
    let v = c.in_ok-signal.signal in
    let more = walk_more points_of (chunk a.fudged) a.run.now a.start a.count l.counter l.at l.points (omega arith) l.invariant.2 t.here in
    (search rules, omega (arith, l.invariant.1, t.starts, t.ends), rw (points_at a.fudged a.run.now l.at v.points) at more)

pub returns : goal.returns
returns c =
    let a = c.args in
    let l = c.loop in
    let all : l.counter ≡ a.count = omega arith in
    list_all a.fudged a.count a.run.now a.start (rw all at l.invariant.2)
