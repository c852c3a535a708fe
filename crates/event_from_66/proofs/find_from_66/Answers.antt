-- `event_from_66::find_from_66` meets its contract: each way out is decided by the tests that led there.
use native.Mathlib.Omega.{arith}
use Rattle.event_from_66.proofs.Answers.{short_preamble, short_body, found}
use Rattle.event_from_66.proofs.find_from_66.Goals as goal

pub returns-then-remaining-lt136 : goal.returns-then-remaining-lt136
returns-then-remaining-lt136 c = short_preamble _ _ _ _ (omega arith)

pub returns-then-remaining-size : goal.returns-then-remaining-size
returns-then-remaining-size c =
    short_body _ _ _ _ (omega arith) c.bytes-preamble.ensures c.is_primary-primary.ensures c.body_size-size.ensures (omega arith)

pub returns : goal.returns
returns c =
    found _ _ _ _ (omega arith) c.bytes-preamble.ensures c.is_primary-primary.ensures c.body_size-size.ensures c.bytes.ensures c.is_tribrid-tribrid.ensures (omega arith) c.lists_of.ensures
