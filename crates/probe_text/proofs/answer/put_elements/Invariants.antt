-- What is put with what is left is all.
use Rattle.std.proofs.Common.{◌≡◌, ◌++◌, length}
use Rattle.probe_text.specs.Answers.{elements}
use Rattle.probe_text.proofs.answer.put_elements.Given as goal

abbrev pub invariant-loop-rest : goal.invariant-loop-rest
invariant-loop-rest g l = l.bytes.items ++ elements g.T.Element.DIGITS g.T.Element.bits_of l.rest
    ≡ l.initial.bytes.items ++ elements g.T.Element.DIGITS g.T.Element.bits_of l.initial.rest

abbrev pub decreases-loop-rest : goal.decreases-loop-rest
decreases-loop-rest g l = length l.rest
