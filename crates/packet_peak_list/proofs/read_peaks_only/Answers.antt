-- The peaks that were found are handed out.
use mathlib.Core.Path.{sym, ap, ◌∙◌}
use Rattle.refusal.specs.Number.{outcome_of}
use Rattle.std.proofs.lemmas.Result.{err_from_is_err_and}
use Rattle.lists.proofs.Left.{left_refused, left_same}
use Rattle.packet_peak_list.proofs.Skipping.{peaks_only, peaks_only_short}
use Rattle.packet_peak_list.proofs.read_peaks_only.Goals as goal

pub returns-in_err-p : goal.returns-in_err-p
returns-in_err-p c =
    let p = err_from_is_err_and c.from_residual.result c.from_residual.ensures.1 in
    rw (p.1, p.2)
    (left_refused (peaks_only_short _ _ _ _ (sym (ap outcome_of c.in_err-p.was) ∙ c.skip_to_peaks.ensures)))

pub returns : goal.returns
returns c =
    left_same
    (peaks_only _ _ _ _ (sym (ap outcome_of c.in_ok-p.was) ∙ c.skip_to_peaks.ensures))
    (rw c.row.ensures at c.write_peaks.ensures)
