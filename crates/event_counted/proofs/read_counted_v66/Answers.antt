-- `event_counted::read_counted_v66` meets its contract: what was found is written.
use Rattle.std.proofs.lemmas.Result.{err_from_is_err_and}
use Rattle.lists.proofs.Left.{left_same}
use Rattle.event_writer.proofs.Reading.{read_refused, read_found}
use Rattle.event_counted.proofs.Answers.{counted_then}
use Rattle.event_counted.proofs.read_counted_v66.Goals as goal

pub returns-in_err-p : goal.returns-in_err-p
returns-in_err-p c =
    let p = err_from_is_err_and c.from_residual.result c.from_residual.ensures.1 in
    rw (p.1, p.2) (left_same (counted_then _ _ _ _) (read_refused _ c.in_err-p.ensures))

pub returns : goal.returns
returns c = left_same (counted_then _ _ _ _) (read_found _ c.in_ok-p.ensures c.write_event.ensures)
