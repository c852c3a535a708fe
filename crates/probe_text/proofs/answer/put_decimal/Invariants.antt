-- The digits so far.
use Rattle.std.proofs.Common.{◌≡◌, ◌++◌, take}
use Rattle.probe_text.proofs.answer.put_decimal.Given as goal

abbrev pub invariant-loop-digit : goal.invariant-loop-digit
invariant-loop-digit l = l.bytes.items ≡ l.initial.bytes.items ++ take l.digit-index l.digit-items
