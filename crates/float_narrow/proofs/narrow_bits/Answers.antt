-- `float_narrow::narrow_bits` meets its contract: each return is one range of the field.
use Prim.Native.Nat.{◌+◌, ◌%◌, ◌^◌}
use lib.Dec.{lit≤}
use Rattle.float_narrow.proofs.Ranges.{kept_most, digits_lt}
use borrow.Author.Rules.{rules}
use Rattle.float_narrow.proofs.narrow_bits.Goals as goal

pub overflow_add-result : goal.overflow_add-result
overflow_add-result c =
    let r = c.args.r in
    let e = c.nearest_shift-else-field-lt897.ensures in
    let l = kept_most 29 (2 ^ 52 + r % 2 ^ 52) (lit≤ tt) (digits_lt r) in
    search rules
