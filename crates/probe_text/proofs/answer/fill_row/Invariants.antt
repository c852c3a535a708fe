-- The elements so far.
use Rattle.std.proofs.Common.{◌≡◌, ◌+◌, ◌*◌, take}
use Rattle.probe_text.specs.Answers.{elements}
use Rattle.probe_text.proofs.answer.fill_row.Given as goal

abbrev pub invariant-loop-i : goal.invariant-loop-i
invariant-loop-i g l = take ((g.T.Element.DIGITS + 1) * l.i) l.row ≡ elements g.T.Element.DIGITS g.T.Element.bits_of (take l.i l.xs)
