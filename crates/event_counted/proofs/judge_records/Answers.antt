-- `event_counted::judge_records` meets its contract. The invariant: the first i records are sound.
use mathlib.Core.Path.{◌≡◌, sym, ◌∙◌}
use native.Mathlib.Omega.{arith}
use Rattle.std.proofs.lemmas.Result.{err_from_is_err_and}
use Rattle.event_counted.proofs.Judging.{none, one_more, first_wrong}
use Rattle.event_counted.proofs.judge_records.Goals as goal

pub loop-i-init : goal.loop-i-init
loop-i-init c = none c.args.start c.args.body.now

pub returns-in_err-judge_record : goal.returns-in_err-judge_record
returns-in_err-judge_record c =
    let a = c.args in
    let p = err_from_is_err_and c.from_residual.result c.from_residual.ensures.1 in
    rw (p.1, p.2) (sym (first_wrong a.start a.body.now c.loop-i.i a.n (omega arith) c.loop-i.invariant (sym c.in_err-judge_record.ensures)))

pub loop-i-preserved : goal.loop-i-preserved
loop-i-preserved c =
    let a = c.args in
    one_more a.start a.body.now c.loop-i.i c.loop-i.invariant ∙ sym c.in_ok-judge_record.ensures

pub returns : goal.returns
returns c =
    let a = c.args in
    let all : c.loop-i.i ≡ a.n = omega arith in
    sym (rw all at c.loop-i.invariant)
