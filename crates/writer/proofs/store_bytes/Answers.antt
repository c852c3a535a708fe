-- `writer::store_bytes` meets its contract: what is within the slice is copied.
use mathlib.Core.Path.{sym}
use native.Mathlib.Omega.{arith}
use Rattle.writer.proofs.Stores.{sets_within}
use Rattle.writer.proofs.store_bytes.Goals as goal

pub returns : goal.returns
returns c =
    let a = c.args in
    rw c.copy_from_slice.ensures.after (sym (sets_within a.out.now a.at a.xs.now c.min-start.ensures (omega (arith, c.min-end.ensures, c.saturating_add.ensures))))
