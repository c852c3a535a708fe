-- `packet_peak_list::read_peaks` meets its contract: each way out is decided by the tests that led there.
use native.Mathlib.Omega.{arith}
use Rattle.packet_peak_list.proofs.Lists.{no_list, short_count, short_peaks, whole_list}
use Rattle.packet_peak_list.proofs.read_peaks.Goals as goal

pub returns-then-h-eq0 : goal.returns-then-h-eq0
returns-then-h-eq0 c =
    let a = c.args in
    no_list a.h a.run.now a.at _ c.is_wide-wide.ensures c.if-h-eq0.true

pub returns-then-all-remaining : goal.returns-then-all-remaining
returns-then-all-remaining c =
    let a = c.args in
    let z = c.item_size.ensures.value in
    rw z (whole_list a.h a.run.now a.at c.is_wide-wide.result c.is_wide-wide.ensures (omega arith) (omega (arith, c.remaining.ensures, c.if-remaining-ge4.true)) c.u32_at-n.result c.u32_at-n.ensures (rw (← z) (omega arith)))

pub returns-else-all-remaining : goal.returns-else-all-remaining
returns-else-all-remaining c =
    let a = c.args in
    let z = c.item_size.ensures.value in
    short_peaks a.h a.run.now a.at c.is_wide-wide.result c.is_wide-wide.ensures (omega arith) (omega arith) c.u32_at-n.result c.u32_at-n.ensures (rw (← z) (omega arith))

pub returns-else-remaining-ge4 : goal.returns-else-remaining-ge4
returns-else-remaining-ge4 c =
    let a = c.args in
    short_count a.h a.run.now a.at c.is_wide-wide.result c.is_wide-wide.ensures (omega arith) (omega arith)
