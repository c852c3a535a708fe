-- Entry, event and data in turn.
use Rattle.std.proofs.lemmas.Result.{err_from_is_err_and}
use mathlib.Core.Path.{sym, ap, ◌∙◌}
use Rattle.refusal.specs.Number.{outcome_of}
use Rattle.tray_data.proofs.Answers.{data_count}
use Rattle.tray_scan.specs.Internal.{event_found}
use Rattle.tray_scan.proofs.Parts.{no_entry, no_event, no_data, all_there}
use Rattle.tray_scan.proofs.find_scan.Goals as goal

pub returns-in_err-entry-clause-result_value : goal.returns-in_err-entry-clause-result_value
returns-in_err-entry-clause-result_value c =
    let p = err_from_is_err_and c.from_residual.result c.from_residual.ensures.1 in
    rw (p.1, p.2) (no_entry _ _ _ _ (sym (ap outcome_of c.in_err-entry.was) ∙ c.entry_of.ensures))

pub returns-in_err-places-clause-result_value : goal.returns-in_err-places-clause-result_value
returns-in_err-places-clause-result_value c =
    let p = err_from_is_err_and c.from_residual-in_err-places.result c.from_residual-in_err-places.ensures.1 in
    rw (p.1, p.2) (no_event _ _ _ _ (sym (ap outcome_of c.in_ok-entry.was) ∙ c.entry_of.ensures) (sym (ap (event_found c.args.run.now) c.in_err-places.was)))

pub returns-in_err-data-clause-result_value : goal.returns-in_err-data-clause-result_value
returns-in_err-data-clause-result_value c =
    let p = err_from_is_err_and c.from_residual-in_err-data.result c.from_residual-in_err-data.ensures.1 in
    rw (p.1, p.2)
    (no_data _ _ _ _ (sym (ap outcome_of c.in_ok-entry.was) ∙ c.entry_of.ensures) (sym (ap (event_found c.args.run.now) c.in_ok-places.was)) (sym (ap outcome_of c.in_err-data.was) ∙ c.data_of.ensures))

pub returns-clause-result_value : goal.returns-clause-result_value
returns-clause-result_value c =
    all_there _ _ _ _ (sym (ap outcome_of c.in_ok-entry.was) ∙ c.entry_of.ensures) (sym (ap (event_found c.args.run.now) c.in_ok-places.was)) (sym (ap outcome_of c.in_ok-data.was) ∙ c.data_of.ensures)

pub returns-clause-count_holds_in : goal.returns-clause-count_holds_in
returns-clause-count_holds_in c = data_count _ _ _ _ _ (sym (ap outcome_of c.in_ok-data.was) ∙ c.data_of.ensures)
