-- `listing_lines::write_refusal_line` meets its contract: the line is made, and then written.
use mathlib.Core.Path.{◌≡◌}
use Prim.Native.Nat.{ℕ, ◌^◌, ◌<◌}
use native.Mathlib.Omega.{arith}
use mathlib.Core.List.{List, [], ◌∷◌}
use lib.ListN.{replicate}
use Rattle.refusal.specs.Number.{number as number_of, carried}
use Rattle.refusal.specs.declared.Refusal.{Refusal}
use Rattle.text.specs.Text.{ascii}
use Rattle.listing_lines.specs.Lines.{decimal, line, part_in, refusal_line}
use Rattle.listing_lines.specs.Internal.{Appends}
use Rattle.listing_lines.proofs.Places.{Made, append_made}
use Rattle.listing_lines.proofs.Room.{refusal_room}
use Rattle.listing_lines.proofs.write_refusal_line.Goals as goal

-- the line, with the numbers that the calls answer
made : {number m part n : ℕ} {X : List ℕ} → Appends (line (ascii "X" ∷ decimal number ∷ decimal m ∷ decimal part ∷ [])) 0 (replicate 64 0) n X → number < 2 ^ 32
    → (refusal : Refusal) → m ≡ number_of refusal → part ≡ part_in (number_of refusal) (carried refusal) → Made (refusal_line number refusal) n X
unfolding refusal_line
made {number} p small refusal e f = append_made (rw (e, f) at p) (refusal_room number refusal small)

pub slice_bounds-text-end : goal.slice_bounds-text-end
slice_bounds-text-end c = (made c.append_three-n.ensures (omega arith) c.args.refusal c.number.ensures c.part_of.ensures).within

pub slice_bounds-write-end : goal.slice_bounds-write-end
slice_bounds-write-end c = (made c.append_three-n.ensures (omega arith) c.args.refusal c.number.ensures c.part_of.ensures).count

pub returns : goal.returns
returns c =
    rw (made c.append_three-n.ensures (omega arith) c.args.refusal c.number.ensures c.part_of.ensures).is at c.write.ensures
