-- `reader::u64_at` meets its contract: the number splits into two halves, also where its bytes end.
use native.Mathlib.Omega.{arith}
use Rattle.reader.proofs.Words.{le_halves}
use Rattle.reader.proofs.u64_at.Goals as goal

pub returns : goal.returns
returns c =
    let a = c.args in
    omega (arith, le_halves a.run.now a.at 4 4 _ (omega arith) c.saturating_add.ensures, c.u32_at.ensures, c.u32_at-2.ensures)
