-- `listing_lines::digit` meets its contract.
use Rattle.listing_lines.specs.Decimal.{digit}
use borrow.Author.Rules.{rules}
use Rattle.listing_lines.proofs.digit.Goals as goal

pub returns : goal.returns
unfolding digit
returns c = search rules
