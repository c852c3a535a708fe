-- `listing_lines::append_number` meets its contract.
use Rattle.listing_lines.proofs.Places.{append_then}
use Rattle.listing_lines.proofs.append_number.Goals as goal

pub returns : goal.returns
returns c = append_then c.append-next.ensures c.append_decimal.ensures
