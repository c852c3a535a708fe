-- `event_bytes::codes_given` meets its contract: what `==` compares is what the definition names.
use mathlib.Core.Path.{◌∙◌}
use borrow.Author.Tests.{le-leb}
use Rattle.event_bytes.proofs.Codes.{codes_eq}
use Rattle.event_bytes.proofs.codes_given.Goals as goal

pub returns-then-event-preamble : goal.returns-then-event-preamble
returns-then-event-preamble c =
    rw (le-leb _ _ c.if-event-preamble.true, ← c.decode.ensures) (c.eq.ensures ∙ codes_eq c.args.event.preamble c.decode.result)
