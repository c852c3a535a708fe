-- The header, and what follows it.
use mathlib.Core.Path.{sym, ap, ◌∙◌}
use Rattle.refusal.specs.Number.{outcome_of}
use Rattle.std.proofs.lemmas.Result.{err_from_is_err_and}
use Rattle.packet_header.proofs.Size.{header_read}
use Rattle.refusal.specs.Outcome.{and_then}
use Rattle.packet_places.specs.Internal.{after_header, in_turn}
use Rattle.packet_places.proofs.Answers.{by_stages, no_packet}
use Rattle.packet_places.proofs.find_places.Goals as goal

pub after_header-requires : goal.after_header-requires
after_header-requires c =
    let a = c.args in
    (header_read a.run.now a.at (sym (ap outcome_of c.in_ok-h.was) ∙ c.read.ensures)).0

pub returns-in_err-h : goal.returns-in_err-h
unfolding in_turn
returns-in_err-h c =
    let a = c.args in
    let p = err_from_is_err_and c.from_residual.result c.from_residual.ensures.1 in
    rw (p.1, p.2)
    (no_packet a.run.now a.at (ap (λ o. and_then o (λ h. after_header h a.at a.run.now)) (sym (ap outcome_of c.in_err-h.was) ∙ c.read.ensures)))

pub returns : goal.returns
unfolding in_turn
returns c =
    let a = c.args in
    by_stages a.run.now a.at (outcome_of c.after_header.result)
    (c.after_header.ensures ∙ ap (λ o. and_then o (λ h. after_header h a.at a.run.now)) (sym (ap outcome_of c.in_ok-h.was) ∙ c.read.ensures))
