-- The event is sought, then the scan is found, and written.
use mathlib.Core.Path.{sym, ap, ◌∙◌}
use Rattle.lists.proofs.Left.{left_refused, left_same}
use Rattle.refusal.specs.Outcome.{on_ok}
use Rattle.refusal.specs.Number.{outcome_of}
use Rattle.tray_scan.specs.Internal.{parts_at}
use Rattle.tray_scan.proofs.Parts.{next_is, not_found, was_found}
use borrow.Author.Rules.{rules}
use Rattle.tray_scan.proofs.scan_at.Goals as goal

pub write_scan-requires : goal.write_scan-requires
write_scan-requires c = rw c.in-Ok.is at c.find_scan.ensures.count_holds_in

pub returns-in-Err : goal.returns-in-Err
returns-in-Err c =
    let event = c.find_event-event in
    let a = c.args in record { left_lists_and_pairs = left_refused (not_found a.h a.k a.at a.run.now event.result event.ensures (sym (ap (λ r. on_ok (parts_at a.run.now) (outcome_of r)) c.in-Err.is) ∙ c.find_scan.ensures.result_value) _); next_value = c.next_place-next.ensures ∙ next_is a.h a.at a.run.now event.result event.ensures }

pub returns-in-Ok : goal.returns-in-Ok
returns-in-Ok c =
    let event = c.find_event-event in
    let a = c.args in record { left_lists_and_pairs = left_same (was_found a.h a.k a.at a.run.now event.result event.ensures (sym (ap (λ r. on_ok (parts_at a.run.now) (outcome_of r)) c.in-Ok.is) ∙ c.find_scan.ensures.result_value) _) c.write_scan.ensures; next_value = c.next_place-next.ensures ∙ next_is a.h a.at a.run.now event.result event.ensures }
