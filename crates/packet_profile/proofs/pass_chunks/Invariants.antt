-- `packet_profile::pass_chunks` meets its contract: a turn passes one chunk and counts its values (`WalkInvariant`). Four times the
-- values are at most the place, so their number fits.
use Prim.Native.Nat.{◌*◌, ◌≤◌}
use Rattle.parser.proofs.Walk.{WalkInvariant}
use Rattle.packet_profile.specs.Profile.{points as points_of, chunk}
use Rattle.packet_profile.proofs.pass_chunks.Given as goal

abbrev pub invariant-loop : goal.invariant-loop
invariant-loop l = (l.counter ≤ l.count) × (l.points * 4 ≤ l.at) × WalkInvariant points_of (chunk l.fudged) l.run l.start l.count l.counter l.at l.points
