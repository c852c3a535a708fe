-- `PacketHeader::read` meets its contract: a header is one test, and a value, which `fields` returns.
use native.Mathlib.Omega.{arith}
use Rattle.packet_header.proofs.Size.{header_short, header_whole}
use Rattle.packet_header.proofs.PacketHeader.read.Goals as goal

pub returns-then-remaining-ge40 : goal.returns-then-remaining-ge40
returns-then-remaining-ge40 c = let a = c.args in header_whole a.run.now a.at (omega arith) c.fields.ensures

pub returns : goal.returns
returns c = let a = c.args in header_short a.run.now a.at (omega arith)
