-- A refusal's line, or the scan's lines.
use mathlib.Core.Path.{sym}
use native.Mathlib.Omega.{arith}
use lib.ListN.{length-take}
use Rattle.listing_tray.proofs.Texts.{refused_text, has_text}
use borrow.Author.Rules.{rules}
use Rattle.listing_tray.proofs.list_scan.Goals as goal

-- the slices hold the pairs that were written
pub slice_bounds-mz-end : goal.slice_bounds-mz-end
slice_bounds-mz-end c = (has_text _ _ _ _ _ _ _ _ _ _ _ _ c.scan_at-read.ensures.left_lists_and_pairs _ c.in-Ok.is).in_mz

pub slice_bounds-write_listed-end : goal.slice_bounds-write_listed-end
slice_bounds-write_listed-end c =
    sym (simp length-take (omega (arith, (has_text _ _ _ _ _ _ _ _ _ _ _ _ c.scan_at-read.ensures.left_lists_and_pairs _ c.in-Ok.is).in_mz)))

pub slice_bounds-intensity-end : goal.slice_bounds-intensity-end
slice_bounds-intensity-end c = (has_text _ _ _ _ _ _ _ _ _ _ _ _ c.scan_at-read.ensures.left_lists_and_pairs _ c.in-Ok.is).in_intensity

pub slice_bounds-write_listed-end-in-Ok : goal.slice_bounds-write_listed-end-in-Ok
slice_bounds-write_listed-end-in-Ok c =
    sym (simp length-take (omega (arith, (has_text _ _ _ _ _ _ _ _ _ _ _ _ c.scan_at-read.ensures.left_lists_and_pairs _ c.in-Ok.is).in_intensity)))

pub returns-in-Err : goal.returns-in-Err
returns-in-Err c =
    let a = c.args in record { left_list = rw (refused_text a.h a.k a.at a.run.now _ _ _ _ _ _ _ _ c.scan_at-read.ensures.left_lists_and_pairs _ c.in-Err.is) at c.write_refusal_line.ensures; next_value = c.scan_at-read.ensures.next_value }

pub returns-in-Ok : goal.returns-in-Ok
returns-in-Ok c =
    let a = c.args in
    let text = (has_text a.h a.k a.at a.run.now _ _ _ _ _ _ _ _ c.scan_at-read.ensures.left_lists_and_pairs _ c.in-Ok.is).lines in
    record { left_list = rw text at (rw c.format_in.ensures at c.write_listed.ensures); next_value = c.scan_at-read.ensures.next_value }
