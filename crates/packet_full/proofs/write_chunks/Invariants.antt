-- The invariant is `Writing`, and a turn writes one chunk.
use Rattle.parser.specs.Parser.{parse, repeat}
use Rattle.packet_profile.specs.Profile.{chunk}
use Rattle.packet_full.specs.Internal.{list_of}
use Rattle.packet_full.proofs.Writing.{Writing}
use Rattle.packet_full.proofs.write_chunks.Given as goal

abbrev pub invariant-loop-i : goal.invariant-loop-i
invariant-loop-i l = Writing l.fn.p.peak_count l.fudged l.run (list_of (parse (repeat l.fn.p.peak_count (chunk l.fudged)) l.run l.initial.at)) l.initial.bins l.initial.counts l.initial.fudges l.initial.signal l.bins l.counts l.fudges l.signal l.at l.written l.i
