-- `writer::store_array` meets its contract: where all bytes fit, they are copied.
use mathlib.Core.Path.{◌≡◌, sym, ap, ◌∙◌}
use Prim.Native.Nat.{◌+◌, ◌-◌}
use native.Mathlib.Omega.{arith}
use lib.ListN.{length, take, drop, length-take, length-drop}
use lib.Seq.{take_all}
use Rattle.writer.proofs.Stores.{sets_within}
use Rattle.writer.proofs.store_array.Goals as goal

pub returns-then-room-at : goal.returns-then-room-at
returns-then-room-at g c =
    let a = c.args in
    let n = g.row.N in
    let copied = c.copy_from_slice.ensures in
    let part : length (take (a.at + n - a.at) (drop a.at a.out.now)) ≡ n = simp (length-take, length-drop) (omega (arith, c.if-at-room.true, c.if-room-at.true)) in
    let size : length a.xs ≡ n = ap length (sym copied.after) ∙ copied.len ∙ part in
    let whole = sets_within a.out.now a.at a.xs {start = a.at} {end = a.at + n} (omega (arith, c.if-at-room.true)) (omega (arith, size, c.if-at-room.true, c.if-room-at.true)) in
    rw (copied.after, whole, take_all (a.at + n - a.at) a.xs (omega (arith, size)))
