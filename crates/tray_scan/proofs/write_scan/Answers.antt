-- The room for the pairs, the event, and then the pairs.
use Rattle.std.proofs.lemmas.Result.{err_from_is_err_and}
use mathlib.Core.Path.{◌≡◌, sym, ◌∙◌}
use Prim.Native.Nat.{◌≤◌}
use native.Mathlib.Omega.{arith}
use mathlib.Core.Bool.{true}
use mathlib.Core.List.{[], ◌∷◌}
use lib.ListN.{length, length-take}
use Rattle.lists.specs.Left.{fits}
use Rattle.tray_scan.proofs.Writing.{no_pairs, no_lists, within, all_written}
use borrow.Author.Rules.{rules}
use Rattle.tray_scan.proofs.write_scan.Goals as goal
use Rattle.tray_scan.proofs.write_scan.Goals.{In_ok-read}

-- the test is one of both slices of the pairs
room : (c : In_ok-read)
    → let a = c.args in
    fits (c.pair_count-pairs.result ∷ c.pair_count-pairs.result ∷ []) (length a.mz.now ∷ length a.intensity.now ∷ []) ≡ true
room c = sym c.fits.ensures ∙ c.if-fits.true

-- the coefficients that were written stand at the front of their slice
front : (c : In_ok-read) → c.in_ok-read.read.event.coefficients ≤ length c.write_event.new.coefficients
front c =
    within c.args.run.now c.args.p c.requires c.pair_count-pairs.ensures _ _ _ _ c.args.mz.now c.args.intensity.now (room c) (rw c.in_ok-read.was at c.write_event.ensures)

pub slice_bounds-data_pairs-end : goal.slice_bounds-data_pairs-end
slice_bounds-data_pairs-end c = front (goal.at.slice_bounds-data_pairs-end c).In_ok-read

pub slice_bounds-data_pairs-end-then-fits : goal.slice_bounds-data_pairs-end-then-fits
slice_bounds-data_pairs-end-then-fits c = sym (simp length-take (omega (arith, front (goal.at.slice_bounds-data_pairs-end-then-fits c).In_ok-read)))

pub returns-in_err-read : goal.returns-in_err-read
returns-in_err-read c =
    let p = err_from_is_err_and c.from_residual.result c.from_residual.ensures.1 in
    rw (p.1, p.2)
    (no_lists c.args.run.now c.args.p c.requires c.pair_count-pairs.ensures _ _ _ _ _ _ (sym c.fits.ensures ∙ c.if-fits.true) (rw c.in_err-read.was at c.write_event.ensures))

pub returns-then-fits : goal.returns-then-fits
returns-then-fits c =
    all_written c.args.run.now c.args.p c.requires c.pair_count-pairs.ensures _ _ _ _ _ _ (room (goal.at.returns-then-fits c).In_ok-read) (rw c.in_ok-read.was at c.write_event.ensures) c.data_pairs.ensures

pub returns : goal.returns
returns c =
    no_pairs c.args.run.now c.args.p c.requires c.pair_count-pairs.ensures _ _ _ _ _ _ (sym c.fits.ensures ∙ c.if-fits.false)
