-- Where the last byte is no line feed, none is.
use Rattle.std.proofs.Common.{rules}
use Rattle.std.proofs.Transfers.{All-of_StopsAt}
use Rattle.probe.proofs.lines.strip.Goals as goal

pub returns-then-index-ne10-clause-gone : goal.returns-then-index-ne10-clause-gone
returns-then-index-ne10-clause-gone c = All-of_StopsAt _ _ c.len-n.result _ (search rules) c.if-n-eq0.false c.index.ensures c.if-index-ne10.true
