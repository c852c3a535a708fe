-- Each list is copied by a call of its own.
use native.Mathlib.Omega.{arith}
use Rattle.packet_record.proofs.Writing.{all_written}
use Rattle.packet_record.proofs.write_lists.Goals as goal

pub returns : goal.returns
returns c =
    all_written c.args.places _ _ _ _ _ c.requires (omega arith) c.saturating_add.ensures (rw c.row.ensures at c.write_peaks.ensures) c.copy.ensures.stands c.copy-2.ensures.stands
