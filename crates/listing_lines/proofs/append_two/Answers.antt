-- `listing_lines::append_two` meets its contract: its parts make the line.
use Rattle.listing_lines.proofs.Places.{append_then}
use Rattle.listing_lines.proofs.append_two.Goals as goal

pub returns : goal.returns
returns c =
    append_then c.append-start.ensures (append_then c.append_number-first.ensures (append_then c.append_number-second.ensures c.append.ensures))
