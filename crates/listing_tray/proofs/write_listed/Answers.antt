-- The pairs that are listed stand at the fronts, and their lines are written.
use mathlib.Core.Path.{sym}
use native.Mathlib.Omega.{arith}
use mathlib.Core.List.{zip}
use lib.ListN.{length-take}
use Rattle.listing_pairs.specs.Listed.{listed_pairs}
use Rattle.listing_pairs.proofs.Keeping.{Kept, fronts}
use Rattle.listing_tray.proofs.write_listed.Goals as goal
use Rattle.listing_tray.proofs.write_listed.Goals.{After-keep_listed-n}

module _ (c : After-keep_listed-n) where
  kept : Kept (listed_pairs c.args.format (zip c.args.mz.now c.args.intensity.now)) c.keep_listed-n.new.mz c.keep_listed-n.new.intensity c.keep_listed-n.result
  kept = fronts c.args.format c.args.mz.now c.args.intensity.now c.keep_listed-n.ensures.value c.keep_listed-n.ensures.intensity_after

pub slice_bounds-write_scan_lines-end : goal.slice_bounds-write_scan_lines-end
slice_bounds-write_scan_lines-end c = (kept (goal.at.slice_bounds-write_scan_lines-end c).After-keep_listed-n).in_masses

pub slice_bounds-write_scan_lines-end-2 : goal.slice_bounds-write_scan_lines-end-2
slice_bounds-write_scan_lines-end-2 c = sym (simp length-take (omega (arith, (kept (goal.at.slice_bounds-write_scan_lines-end-2 c).After-keep_listed-n).in_masses)))

pub slice_bounds-write_scan_lines-end-3 : goal.slice_bounds-write_scan_lines-end-3
slice_bounds-write_scan_lines-end-3 c = (kept (goal.at.slice_bounds-write_scan_lines-end-3 c).After-keep_listed-n).in_intensities

pub slice_bounds-write_scan_lines-end-4 : goal.slice_bounds-write_scan_lines-end-4
slice_bounds-write_scan_lines-end-4 c = sym (simp length-take (omega (arith, (kept (goal.at.slice_bounds-write_scan_lines-end-4 c).After-keep_listed-n).in_intensities)))

pub returns : goal.returns
returns c =
    let f = kept (goal.at.returns c).After-keep_listed-n in
    rw (f.masses, f.intensities) at c.write_scan_lines.ensures
