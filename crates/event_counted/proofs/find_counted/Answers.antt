-- `event_counted::find_counted` meets its contract: each way out is decided by the tests that led there.
use native.Mathlib.Omega.{arith}
use Rattle.std.proofs.lemmas.Result.{err_from_is_err_and}
use Rattle.event_counted.proofs.Answers.{short_preamble, short_body, wrong, found}
use Rattle.event_counted.proofs.find_counted.Goals as goal

pub returns-then-remaining-lt136 : goal.returns-then-remaining-lt136
returns-then-remaining-lt136 c = short_preamble _ _ _ (omega arith)

pub returns-then-remaining-size : goal.returns-then-remaining-size
returns-then-remaining-size c = short_body _ _ _ (omega arith) (omega arith)

pub returns-in_err-lists : goal.returns-in_err-lists
returns-in_err-lists c =
    let p = err_from_is_err_and c.from_residual.result c.from_residual.ensures.1 in
    rw (p.1, p.2) (wrong _ _ _ (omega arith) (omega arith) c.bytes.ensures c.bytes-2.ensures c.in_err-lists.ensures)

pub returns : goal.returns
returns c = found _ _ _ (omega arith) (omega arith) c.bytes.ensures c.bytes-2.ensures c.in_ok-lists.ensures
