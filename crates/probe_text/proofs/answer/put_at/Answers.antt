-- A space, and the digits from the last one on.
use Rattle.std.proofs.Common.{◌∙◌, ◌+◌, ◌-◌, arith}
use Rattle.std.proofs.lemmas.List.{length-set, take-set-le, take_more_set}
use Rattle.probe_text.proofs.Digits.{digit_set, digits_set}
use Rattle.probe_text.proofs.answer.put_at.Goals as goal

pub loop-left-preserved : goal.loop-left-preserved
loop-left-preserved c =
    let l = c.loop-left in
    let a = c.args in
    let long = l.invariant.0 ∙ length-set a.row.now a.at 32 in (
      length-set l.row (a.at + 1 + (l.left - 1)) c.glyph.result ∙ l.invariant.0,
      take-set-le (a.at + 1) l.row (a.at + 1 + (l.left - 1)) c.glyph.result (omega arith) ∙ l.invariant.1,
      digit_set l.row a.at l.left a.width l.rest c.glyph.result (omega arith) (omega arith) (omega (arith, long)) c.glyph.ensures ∙ l.invariant.2,
    )

pub returns-clause-text : goal.returns-clause-text
returns-clause-text c =
    let l = c.loop-left in
    let a = c.args in
    digits_set l.row _ a.at l.left a.width l.rest a.n c.requires.digits.0 c.requires.digits.1 c.requires.fits (omega arith)
    (l.invariant.1 ∙ take_more_set a.row.now a.at 32 (omega arith)) l.invariant.2
