-- `events::event_place` meets its contract: a turn passes one event (`Passed`).
use Rattle.std.proofs.lemmas.Result.{err_from_is_err_and}
use Rattle.events.proofs.Ends.{passed_none, passed_more, passed_short, passed_all}
use Rattle.events.proofs.event_place.Goals as goal

pub loop-init : goal.loop-init
loop-init c =
    let a = c.args in
    passed_none a.version a.body_primary a.body_dependent a.start a.k a.run.now

pub returns-in_err-at : goal.returns-in_err-at
returns-in_err-at c =
    let a = c.args in
    let l = c.loop in
    let p = err_from_is_err_and c.from_residual.result c.from_residual.ensures.1 in
    rw (p.1, p.2)
    (passed_short a.version a.body_primary a.body_dependent a.start a.k a.run.now l.counter l.at c.loop-test.true l.invariant c.in_err-at.ensures)

pub loop-preserved : goal.loop-preserved
loop-preserved c =
    let a = c.args in
    let l = c.loop in
    passed_more a.version a.body_primary a.body_dependent a.start a.k a.run.now l.counter l.at c.loop-test.true l.invariant _ c.in_ok-at.ensures

pub returns : goal.returns
returns c =
    let a = c.args in
    passed_all a.version a.body_primary a.body_dependent a.start a.k a.run.now c.loop.invariant c.loop-test.false
