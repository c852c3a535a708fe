-- `packet_peak_list::skip_to_peaks` meets its contract: the header, the profile that is passed over, and the list.
use mathlib.Core.Path.{sym, ap, ◌∙◌}
use native.Mathlib.Omega.{arith}
use Rattle.refusal.specs.Number.{outcome_of}
use Rattle.std.proofs.lemmas.Result.{err_from_is_err_and}
use Rattle.packet_header.proofs.Size.{header_read}
use Rattle.packet_peak_list.proofs.Skipping.{skip_header_short, skip_profile_short, skip_list_short, skip_found}
use Rattle.packet_peak_list.proofs.skip_to_peaks.Goals as goal

pub returns-in_err-h : goal.returns-in_err-h
returns-in_err-h c =
    let a = c.args in
    let p = err_from_is_err_and c.from_residual.result c.from_residual.ensures.1 in
    rw (p.1, p.2)
    (skip_header_short a.run.now a.at (sym (ap outcome_of c.in_err-h.was) ∙ c.read.ensures))

pub overflow_add-at : goal.overflow_add-at
overflow_add-at c =
    let a = c.args in
    omega (arith, (header_read a.run.now a.at (sym (ap outcome_of c.in_ok-h.was) ∙ c.read.ensures)).0)

pub overflow_add-at-then-profile-remaining : goal.overflow_add-at-then-profile-remaining
overflow_add-at-then-profile-remaining c =
    let a = c.args in
    omega (arith, (header_read a.run.now a.at (sym (ap outcome_of c.in_ok-h.was) ∙ c.read.ensures)).0)

pub overflow_add-at-then-profile-remaining-2 : goal.overflow_add-at-then-profile-remaining-2
overflow_add-at-then-profile-remaining-2 c =
    let a = c.args in
    omega (arith, (header_read a.run.now a.at (sym (ap outcome_of c.in_ok-h.was) ∙ c.read.ensures)).0)

pub returns-in_err-list : goal.returns-in_err-list
returns-in_err-list c =
    let a = c.args in
    let p = err_from_is_err_and c.from_residual-in_err-list.result c.from_residual-in_err-list.ensures.1 in
    rw (p.1, p.2)
    (skip_list_short a.run.now a.at (sym (ap outcome_of c.in_ok-h.was) ∙ c.read.ensures) (omega (arith, c.remaining.ensures, c.if-profile-remaining.true)) (sym (ap outcome_of c.in_err-list.was) ∙ c.read_peaks.ensures))

pub returns-then-profile-remaining : goal.returns-then-profile-remaining
returns-then-profile-remaining c =
    let a = c.args in
    skip_found a.run.now a.at (sym (ap outcome_of c.in_ok-h.was) ∙ c.read.ensures) (omega (arith, c.remaining.ensures, c.if-profile-remaining.true)) (sym (ap outcome_of c.in_ok-list.was) ∙ c.read_peaks.ensures)

pub returns : goal.returns
returns c =
    let a = c.args in
    skip_profile_short a.run.now a.at (sym (ap outcome_of c.in_ok-h.was) ∙ c.read.ensures) (omega arith)
