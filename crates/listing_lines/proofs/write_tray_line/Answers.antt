-- `listing_lines::write_tray_line` meets its contract: the line is made, and then written.
use Prim.Native.Nat.{ℕ, ◌^◌, ◌<◌}
use native.Mathlib.Omega.{arith}
use mathlib.Core.List.{List, [], ◌∷◌}
use lib.ListN.{replicate}
use Rattle.text.specs.Text.{ascii}
use Rattle.listing_lines.specs.Lines.{decimal, line, tray_line}
use Rattle.listing_lines.specs.Internal.{Appends}
use Rattle.listing_lines.proofs.Places.{Made, append_made}
use Rattle.listing_lines.proofs.Room.{tray_room}
use Rattle.listing_lines.proofs.write_tray_line.Goals as goal

made : {version scans n : ℕ} {X : List ℕ} → Appends (line (ascii "T" ∷ decimal version ∷ decimal scans ∷ [])) 0 (replicate 64 0) n X → version < 2 ^ 32 → scans < 2 ^ 32
    → Made (tray_line version scans) n X
unfolding tray_line
made {version} {scans} p v k = append_made p (tray_room version scans v k)

pub slice_bounds-text-end : goal.slice_bounds-text-end
slice_bounds-text-end c = (made c.append_two-n.ensures (omega arith) (omega arith)).within

pub slice_bounds-write-end : goal.slice_bounds-write-end
slice_bounds-write-end c = (made c.append_two-n.ensures (omega arith) (omega arith)).count

pub returns : goal.returns
returns c = rw (made c.append_two-n.ensures (omega arith) (omega arith)).is at c.write.ensures
