-- `reader::u32_at` meets its contract: the number splits into two halves, also where its bytes end.
use native.Mathlib.Omega.{arith}
use Rattle.reader.proofs.Words.{le_halves}
use Rattle.reader.proofs.u32_at.Goals as goal

pub returns : goal.returns
returns c =
    let a = c.args in
    omega (arith, le_halves a.run.now a.at 2 2 _ (omega arith) c.saturating_add.ensures, c.u16_at.ensures, c.u16_at-2.ensures)
