-- `event_bytes::write_before_66` meets its contract: what is held is written.
use mathlib.Core.Path.{sym, ◌∙◌}
use Rattle.lists.proofs.Left.{left_refused, left_same}
use Rattle.event_bytes.specs.Write.{write_before_66}
use Rattle.event_bytes.proofs.Held.{small}
use Rattle.event_bytes.proofs.write_before_66.Goals as goal

pub write_held-requires : goal.write_held-requires
write_held-requires c =
    let a = c.args in
    small a.version a.event a.preamble.now a.precursors.now (sym c.is_held.ensures ∙ c.if-is_held.true)

pub returns-then-is_held : goal.returns-then-is_held
unfolding write_before_66
returns-then-is_held c =
    left_same (rw (← c.is_held.ensures, c.if-is_held.true)) c.write_held.ensures

pub returns : goal.returns
unfolding write_before_66
returns c = left_refused (rw (← c.is_held.ensures, c.if-is_held.false))
