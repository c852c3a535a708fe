-- Each field is its place's.
use mathlib.Core.Path.{refl}
use Rattle.packet_record.specs.Packet.{record_of}
use Rattle.packet_record.proofs.record_of.Goals as goal

pub returns : goal.returns
unfolding record_of
returns c = refl
