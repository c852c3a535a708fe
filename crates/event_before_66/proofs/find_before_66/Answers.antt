-- `event_before_66::find_before_66` meets its contract.
use native.Mathlib.Omega.{arith}
use Rattle.event_before_66.proofs.Stages.{size_most}
use Rattle.event_before_66.proofs.Answers.{short_head, short_middle, short_tail, whole}
use Rattle.event_before_66.proofs.find_before_66.Goals as goal

pub overflow_add-len : goal.overflow_add-len
overflow_add-len c = omega (arith, size_most c.args.version, c.size_for_version-len.ensures)

pub returns : goal.returns
returns c =
    whole _ _ _ c.size_for_version-len.ensures (omega arith) c.u32_at-n.ensures (omega arith) c.u32_at-m.ensures (omega arith) c.lists_of.ensures

pub returns-then-remaining-m : goal.returns-then-remaining-m
returns-then-remaining-m c =
    short_tail _ _ _ c.size_for_version-len.ensures (omega arith) c.u32_at-n.ensures (omega arith) c.u32_at-m.ensures (omega arith)

pub returns-then-remaining-n : goal.returns-then-remaining-n
returns-then-remaining-n c =
    short_middle _ _ _ c.size_for_version-len.ensures (omega arith) c.u32_at-n.ensures (omega arith)

pub returns-then-remaining-len : goal.returns-then-remaining-len
returns-then-remaining-len c = short_head _ _ _ (omega (arith, c.size_for_version-len.ensures))
