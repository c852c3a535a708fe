-- `event_counted::judge_body` meets its contract: the count, the records, and then the lists.
use mathlib.Core.Path.{ap, ◌∙◌}
use native.Mathlib.Omega.{arith}
use Rattle.std.proofs.lemmas.Result.{err_from_is_err_and}
use Rattle.refusal.specs.Outcome.{ok}
use Rattle.event_counted.proofs.Answers.{no_count, wrong_record, sound_records}
use Rattle.event_counted.proofs.judge_body.Goals as goal

pub returns-in_err-judge_records : goal.returns-in_err-judge_records
returns-in_err-judge_records c =
    let p = err_from_is_err_and c.from_residual.result c.from_residual.ensures.1 in
    rw (p.1, p.2) (wrong_record _ _ _ (omega arith) _ c.u32_at-count.ensures c.kept_count.ensures c.in_err-judge_records.ensures)

pub returns : goal.returns
returns c =
    ap ok c.lists_of.ensures ∙ sound_records _ _ _ (omega arith) _ c.u32_at-count.ensures c.kept_count.ensures c.in_ok-judge_records.ensures

pub returns-then-remaining-lt4 : goal.returns-then-remaining-lt4
returns-then-remaining-lt4 c = no_count _ _ _ (omega arith)
