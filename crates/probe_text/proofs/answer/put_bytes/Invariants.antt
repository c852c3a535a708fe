-- The bytes so far.
use Rattle.std.proofs.Common.{◌≡◌, ◌++◌, take}
use Rattle.probe_text.specs.Answers.{hex_bytes}
use Rattle.probe_text.proofs.answer.put_bytes.Given as goal

abbrev pub invariant-loop-byte : goal.invariant-loop-byte
invariant-loop-byte l = l.bytes.items ≡ l.initial.bytes.items ++ hex_bytes (take l.byte-index l.run)
