-- The digits that are left to set, and then those set, are all.
use Rattle.std.proofs.Common.{◌≡◌, ◌+◌, ◌++◌, length, take, drop}
use Rattle.io.specs.Digits.{last_digits}
use Rattle.probe_text.proofs.answer.put_at.Given as goal

abbrev pub invariant-loop-left : goal.invariant-loop-left
invariant-loop-left l = (length l.row ≡ length l.initial.row) × (take (l.at + 1) l.row ≡ take (l.at + 1) l.initial.row)
    × (last_digits 16 l.left l.rest ++ drop (l.at + l.left + 1) (take (l.at + l.width + 1) l.row) ≡ last_digits 16 l.width l.n)
