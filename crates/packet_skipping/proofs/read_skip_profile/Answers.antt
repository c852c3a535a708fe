-- Each stage decides, and then the room.
use mathlib.Core.Path.{sym, ap, ◌∙◌}
use Rattle.refusal.specs.Outcome.{on_ok}
use Rattle.refusal.specs.Number.{outcome_of}
use Rattle.std.proofs.lemmas.Result.{err_from_is_err_and}
use Rattle.lists.proofs.Left.{left_refused, left_same}
use Rattle.packet_labels.specs.Labels.{streams_at}
use Rattle.packet_skipping.proofs.Answers.{no_peaks, no_labels, whole_packet}
use Rattle.packet_skipping.proofs.read_skip_profile.Goals as goal

pub returns-in_err-p : goal.returns-in_err-p
returns-in_err-p c =
    let p = err_from_is_err_and c.from_residual.result c.from_residual.ensures.1 in
    rw (p.1, p.2)
    (left_refused (no_peaks _ _ _ (sym (ap outcome_of c.in_err-p.was) ∙ c.skip_to_peaks.ensures)))

pub returns-in_err-places : goal.returns-in_err-places
returns-in_err-places c =
    let s = c.args.run.now in
    let p = err_from_is_err_and c.from_residual-in_err-places.result c.from_residual-in_err-places.ensures.1 in
    rw (p.1, p.2)
    (left_refused
    (no_labels _ _ _ _ (sym (ap outcome_of c.in_ok-p.was) ∙ c.skip_to_peaks.ensures)
    (sym (ap (λ r. on_ok (λ v. (v, streams_at s v.labels)) (outcome_of r)) c.in_err-places.was) ∙ c.with_labels.ensures)))

pub returns : goal.returns
returns c =
    let s = c.args.run.now in
    left_same
    (whole_packet _ _ _ _ (sym (ap outcome_of c.in_ok-p.was) ∙ c.skip_to_peaks.ensures)
    (sym (ap (λ r. on_ok (λ w. (w, streams_at s w.labels)) (outcome_of r)) c.in_ok-places.was) ∙ c.with_labels.ensures))
    c.write_packet.ensures
