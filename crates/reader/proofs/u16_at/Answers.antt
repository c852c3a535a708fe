-- `reader::u16_at` meets its contract: the number splits into two halves, also where its bytes end.
use native.Mathlib.Omega.{arith}
use Rattle.reader.proofs.Words.{le_halves}
use Rattle.reader.proofs.u16_at.Goals as goal

pub returns : goal.returns
returns c =
    let a = c.args in
    omega (arith, le_halves a.run.now a.at 1 1 _ (omega arith) c.saturating_add.ensures, c.u8_at.ensures, c.u8_at-2.ensures)
