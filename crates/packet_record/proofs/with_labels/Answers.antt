-- The labels decide.
use mathlib.Core.Path.{sym, ap, ◌∙◌}
use Rattle.refusal.specs.Outcome.{on_ok}
use Rattle.refusal.specs.Number.{outcome_of}
use Rattle.std.proofs.lemmas.Result.{err_from_is_err_and}
use Rattle.packet_labels.specs.Labels.{Streams, streams_at}
use Rattle.packet_labels.specs.declared.Labels.{Labels}
use Rattle.packet_record.specs.Packet.{with_labels}
use Rattle.packet_record.proofs.with_labels.Goals as goal

pub returns-in_err-labels : goal.returns-in_err-labels
unfolding with_labels
returns-in_err-labels c =
    let a = c.args in
    let p = err_from_is_err_and c.from_residual.result c.from_residual.ensures.1 in
    rw (p.1, p.2)
    (ap (on_ok (λ (l : Labels × Streams). (record { header = a.header; profile = a.profile; list = a.list; labels = l.0 }, l.1)))
    (sym (ap (λ r. on_ok (λ l. (l, streams_at a.run.now l)) (outcome_of r)) c.in_err-labels.was) ∙ c.read_labels.ensures))

pub returns : goal.returns
unfolding with_labels
returns c =
    let a = c.args in
    ap (on_ok (λ (l : Labels × Streams). (record { header = a.header; profile = a.profile; list = a.list; labels = l.0 }, l.1)))
    (sym (ap (λ r. on_ok (λ l. (l, streams_at a.run.now l)) (outcome_of r)) c.in_ok-labels.was) ∙ c.read_labels.ensures)
