-- Profile, peak list and labels decide in turn.
use mathlib.Core.Path.{sym, ap, ◌∙◌}
use Rattle.refusal.specs.Number.{outcome_of}
use Rattle.std.proofs.lemmas.Result.{err_from_is_err_and}
use Rattle.packet_peak_list.specs.PeakList.{read_peaks}
use Rattle.packet_record.specs.Packet.{with_labels}
use Rattle.refusal.specs.Outcome.{and_then}
use Rattle.packet_places.specs.Internal.{after_header}
use Rattle.packet_places.proofs.Stages.{then_no_peaks, then_labels}
use Rattle.packet_places.proofs.after_header.Goals as goal

pub returns-in_err-profile : goal.returns-in_err-profile
unfolding after_header
returns-in_err-profile c =
    let a = c.args in
    let s = a.run.now in
    let p = err_from_is_err_and c.from_residual.result c.from_residual.ensures.1 in
    rw (p.1, p.2)
    (ap (λ o. and_then o (λ p. and_then (read_peaks a.h p.1 s) (λ list. with_labels a.h p.0 list s))) (sym (ap outcome_of c.in_err-profile.was) ∙ c.find_profile.ensures))

pub returns-in_err-list : goal.returns-in_err-list
returns-in_err-list c =
    let a = c.args in
    let p = err_from_is_err_and c.from_residual-in_err-list.result c.from_residual-in_err-list.ensures.1 in
    rw (p.1, p.2)
    (then_no_peaks a.h a.at a.run.now (sym (ap outcome_of c.in_ok-profile.was) ∙ c.find_profile.ensures) (sym (ap outcome_of c.in_err-list.was) ∙ c.read_peaks.ensures))

pub returns : goal.returns
returns c =
    let a = c.args in
    then_labels a.h a.at a.run.now (sym (ap outcome_of c.in_ok-profile.was) ∙ c.find_profile.ensures) (sym (ap outcome_of c.in_ok-list.was) ∙ c.read_peaks.ensures) c.with_labels.ensures
