-- `events::event_end` meets its contract: the place after the event that was found.
use Rattle.std.proofs.lemmas.Result.{err_from_is_err_and}
use Rattle.events.proofs.Ends.{then_end}
use Rattle.events.proofs.event_end.Goals as goal

pub returns-in_err-p : goal.returns-in_err-p
returns-in_err-p c =
    let p = err_from_is_err_and c.from_residual.result c.from_residual.ensures.1 in
    rw (p.1, p.2) (then_end _ _ _ _ _ c.in_err-p.ensures)

pub returns : goal.returns
returns c = then_end _ _ _ _ _ c.in_ok-p.ensures
