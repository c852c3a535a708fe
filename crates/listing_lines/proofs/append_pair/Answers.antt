-- `listing_lines::append_pair` meets its contract: its parts make the line.
use Rattle.listing_lines.proofs.Places.{append_then}
use Rattle.listing_lines.proofs.append_pair.Goals as goal

pub returns : goal.returns
returns c =
    rw (← c.bits_of_f64.ensures) (append_then c.append_mass-space.ensures (append_then c.append-next.ensures (append_then c.append_hexadecimal-end.ensures c.append.ensures)))
