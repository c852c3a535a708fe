-- No profile, or what `Profile::read` answered.
use mathlib.Core.Path.{sym, ap, ◌∙◌}
use Rattle.refusal.specs.Number.{outcome_of}
use Rattle.std.proofs.lemmas.Result.{err_from_is_err_and}
use Rattle.packet_places.proofs.Stages.{no_profile, profile_short, profile_found}
use Rattle.packet_places.proofs.find_profile.Goals as goal

pub returns-then-h-eq0 : goal.returns-then-h-eq0
returns-then-h-eq0 c =
    let a = c.args in
    no_profile a.h a.at a.run.now c.if-h-eq0.true

pub returns-in_err-p : goal.returns-in_err-p
returns-in_err-p c =
    let a = c.args in
    let p = err_from_is_err_and c.from_residual.result c.from_residual.ensures.1 in
    rw (p.1, p.2)
    (profile_short a.h a.at a.run.now c.if-h-eq0.false (sym (ap outcome_of c.in_err-p.was) ∙ c.read.ensures))

pub returns : goal.returns
returns c =
    let a = c.args in
    profile_found a.h a.at a.run.now c.if-h-eq0.false (sym (ap outcome_of c.in_ok-p.was) ∙ c.read.ensures)
