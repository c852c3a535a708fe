-- `packet_profile::Profile::read` meets its contract: each way out is decided by the tests that led there.
use mathlib.Core.Path.{sym, ◌∙◌}
use native.Mathlib.Omega.{arith}
use Rattle.std.proofs.lemmas.Result.{err_from_is_err_and}
use Rattle.packet_profile.proofs.Answers.{short_axis, short_count, short_chunks, whole_profile}
use Rattle.packet_profile.proofs.Profile.read.Goals as goal

pub returns-then-remaining-lt24 : goal.returns-then-remaining-lt24
returns-then-remaining-lt24 c =
    let a = c.args in
    short_axis a.layout a.run.now a.at (omega arith)

pub returns-then-remaining-count : goal.returns-then-remaining-count
returns-then-remaining-count c =
    let a = c.args in
    short_count a.layout a.run.now a.at c.u32_at-count.result c.u32_at-count.ensures (omega arith) (omega arith)

pub returns-in_err-chunks : goal.returns-in_err-chunks
returns-in_err-chunks c =
    let a = c.args in
    let p = err_from_is_err_and c.from_residual.result c.from_residual.ensures.1 in
    rw (p.1, p.2)
    (short_chunks a.layout a.run.now a.at c.u32_at-count.result c.u32_at-count.ensures (omega (arith, c.remaining.ensures, c.if-remaining-lt24.false)) (omega (arith, c.remaining-2.ensures, c.if-remaining-count.false)) c.is_fudged-fudged.result c.is_fudged-fudged.ensures _
    (sym c.in_err-chunks.was ∙ c.pass_chunks.ensures))

pub returns : goal.returns
returns c =
    let a = c.args in
    rw (c.u64_at.ensures, c.u64_at-2.ensures, c.u32_at.ensures)
    (whole_profile a.layout a.run.now a.at c.u32_at-count.result c.u32_at-count.ensures (omega (arith, c.remaining.ensures, c.if-remaining-lt24.false)) (omega (arith, c.remaining-2.ensures, c.if-remaining-count.false)) c.is_fudged-fudged.result c.is_fudged-fudged.ensures c.in_ok-chunks.chunks
    (sym c.in_ok-chunks.was ∙ c.pass_chunks.ensures))
