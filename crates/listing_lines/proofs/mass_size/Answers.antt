-- `listing_lines::mass_size` meets its contract.
use Rattle.listing_lines.proofs.Places.{append_front}
use Rattle.listing_lines.proofs.Room.{mass_most}
use Rattle.listing_lines.proofs.mass_size.Goals as goal

pub returns : goal.returns
returns c = (append_front c.append_mass.ensures (mass_most _)).0
