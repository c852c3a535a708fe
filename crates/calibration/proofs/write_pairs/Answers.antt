-- `calibration::write_pairs` meets its contract. The invariant: the first i pairs are written, and the place is that of the
-- next signal.
use Rattle.std.proofs.Common.{◌+◌, ◌*◌, ap, ◌∙◌, arith}
use lib.Ieee.{binary32, of_bits}
use Rattle.parser.specs.Parser.{bytes, little_endian}
use Rattle.lists.proofs.Laws.{fill_none, fill_more}
use Rattle.reader.proofs.Words.{le_saturated}
use Rattle.reader.proofs.Copies.{next_place}
use Rattle.calibration.proofs.write_pairs.Goals as goal

pub loop-i-init : goal.loop-i-init
loop-i-init c = (fill_none _ _ _, fill_none _ _ _, omega arith)

pub loop-i-preserved : goal.loop-i-preserved
loop-i-preserved c =
    let l = c.loop-i in
    let a = c.args in
    let bits = c.u32_at.ensures ∙ ap (λ p. little_endian (bytes a.run.now p 4)) l.invariant.2 ∙ le_saturated a.run.now (a.at + l.i * 4) 4 (omega arith) in (
      fill_more _ _ _ _ _ _ l.invariant.0 c.bin_to_mz.ensures (omega arith) (omega (arith, c.requires.n_in_bounds)),
      fill_more _ _ _ _ _ _ l.invariant.1 (c.widened.ensures ∙ ap (of_bits binary32) bits) (omega arith) (omega (arith, c.requires.n_in_bounds_2)),
      c.saturating_add-place.ensures ∙ next_place a.at l.i 4 l.place l.invariant.2,
    )
