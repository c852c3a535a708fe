-- `listing_lines::append` meets its contract.
use Rattle.listing_lines.proofs.Places.{append_one}
use Rattle.listing_lines.proofs.append.Goals as goal

pub returns-then-at-out : goal.returns-then-at-out
returns-then-at-out c = let a = c.args in append_one a.byte a.at a.out.now c.if-at-out.true
