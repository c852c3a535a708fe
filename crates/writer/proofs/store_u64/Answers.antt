-- `writer::store_u64` meets its contract: std's bytes of a number are those of a layout.
use mathlib.Core.Path.{◌≡◌, ap, ◌∙◌}
use Prim.Native.Nat.{◌/◌, ◌^◌}
use native.Mathlib.Nat.{div-one}
use lib.Seq.{sets}
use Rattle.layout.specs.Layout.{le_bytes}
use Rattle.writer.proofs.Stores.{le_bytes-from}
use Rattle.writer.proofs.store_u64.Goals as goal

pub returns : goal.returns
returns c =
    let a = c.args in
    let one : a.x / 256 ^ 0 ≡ a.x = div-one a.x in
    let e = le_bytes-from 8 0 a.x in
    c.store_array.ensures ∙ ap (sets a.out.now a.at) (c.to_le_bytes.ensures ∙ e ∙ ap (le_bytes 8) one)
