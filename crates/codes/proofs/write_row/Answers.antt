-- `codes::write_row` meets its contract: the bytes lent to `text::write` are the row's name.
use mathlib.Core.Path.{◌≡◌}
use mathlib.Core.List.{[]}
use Prim.Native.Nat.{◌+◌, ◌*◌, ◌-◌}
use native.Mathlib.Omega.{arith}
use lib.ListN.{get_or, take, drop}
use Rattle.codes.specs.Internal.{rows}
use Rattle.codes.proofs.Tables.{table, lengths, row_is}
use Rattle.codes.proofs.write_row.Goals as goal

pub returns : goal.returns
returns c =
    let k = c.args.row in
    let n = c.digit.result in
    let size : k * 8 + n - k * 8 ≡ get_or lengths k 0 - 48 = omega (arith, c.digit.ensures) in
    let text : take (k * 8 + n - k * 8) (drop (k * 8) table) ≡ get_or rows k [] = rw size (row_is k c.requires) in
    rw (← text) c.write.ensures
