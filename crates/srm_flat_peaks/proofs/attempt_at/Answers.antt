-- `srm_flat_peaks::attempt_at` meets its contract: each way out is decided by the tests that led there.
use mathlib.Core.Path.{sym, ◌∙◌}
use native.Mathlib.Omega.{arith}
use Rattle.srm_flat_peaks.proofs.Attempts.{too_few, too_long, runs_out, plausible_first, implausible_first}
use Rattle.srm_flat_peaks.proofs.attempt_at.Goals as goal

pub returns-then-data_size-subtract : goal.returns-then-data_size-subtract
returns-then-data_size-subtract c =
    let a = c.args in
    too_few a.end a.cum_end a.data_size a.subtract a.run.now a.end (omega arith)

pub returns-then-section-cum_end : goal.returns-then-section-cum_end
returns-then-section-cum_end c =
    let a = c.args in
    too_long a.end a.cum_end a.data_size a.subtract a.run.now a.end (omega arith) (omega arith)

pub returns-then-count-remaining : goal.returns-then-count-remaining
returns-then-count-remaining c =
    let a = c.args in
    runs_out a.end a.cum_end a.data_size a.subtract a.run.now a.end (omega arith) (omega arith) _ c.saturating_sub-place.ensures (omega arith)

pub returns-then-is_plausible : goal.returns-then-is_plausible
returns-then-is_plausible c =
    let a = c.args in
    let says = rw c.u32_at.ensures at c.is_plausible.ensures in
    plausible_first a.end a.cum_end a.data_size a.subtract a.run.now a.end (omega arith) (omega arith) _ c.saturating_sub-place.ensures (omega arith) (sym says ∙ c.if-is_plausible.true)

pub returns : goal.returns
returns c =
    let a = c.args in
    let says = rw c.u32_at.ensures at c.is_plausible.ensures in
    implausible_first a.end a.cum_end a.data_size a.subtract a.run.now a.end (omega arith) (omega arith) _ c.saturating_sub-place.ensures (omega arith) (sym says ∙ c.if-is_plausible.false)
