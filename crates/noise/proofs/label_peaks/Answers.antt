-- `noise::label_peaks` meets its contract. The invariant: the labels of the first i masses are written.
use mathlib.Core.Path.{◌≡◌, ap, sym, ◌∙◌}
use mathlib.Core.Bool.{true}
use Rattle.lists.proofs.Laws.{fill_none, fill_more, fill_done}
use Rattle.noise.specs.Nodes.{nodes_of}
use Rattle.noise.proofs.Labelling.{room_for, labels_room, labels_refused, labels_written}
use borrow.Author.Rules.{rules}
use Rattle.noise.proofs.label_peaks.Goals as goal
use Rattle.noise.proofs.label_peaks.Goals.{Else-not-fits}

has_room : (c : Else-not-fits)
    → let a = c.args in
    room_for a.mz.now (nodes_of a.nodes.now) a.flags.now a.noise.now a.baseline.now ≡ true
has_room c =
    sym c.fits.ensures ∙ c.if-not-fits.false

pub returns-then-not-fits : goal.returns-then-not-fits
returns-then-not-fits c =
    labels_refused _ _ _ _ _ (sym c.fits.ensures ∙ c.if-not-fits.true)

pub loop-i-init : goal.loop-i-init
loop-i-init c = (fill_none _ _ _, fill_none _ _ _, fill_none _ _ _)

pub loop-i-preserved : goal.loop-i-preserved
loop-i-preserved c =
    let l = c.loop-i in
    let a = c.args in
    let r = labels_room a.mz.now (nodes_of a.nodes.now) a.flags.now a.noise.now a.baseline.now (has_room (goal.at.loop-i-preserved c).Else-not-fits) in
    let label = c.label_at-label.ensures in (
      fill_more _ _ _ _ _ _ l.invariant.0 (ap (λ k. k.flag) label) (search rules) (search rules),
      fill_more _ _ _ _ _ _ l.invariant.1 (ap (λ k. k.noise) label) (search rules) (search rules),
      fill_more _ _ _ _ _ _ l.invariant.2 (ap (λ k. k.baseline) label) (search rules) (search rules),
    )

pub returns : goal.returns
returns c =
    let l = c.loop-i in
    labels_written _ _ _ _ _ (has_room (goal.at.returns c).Else-not-fits) _ _ _
    (fill_done _ _ _ _ _ l.invariant.0 c.loop-i-test.false)
    (fill_done _ _ _ _ _ l.invariant.1 c.loop-i-test.false)
    (fill_done _ _ _ _ _ l.invariant.2 c.loop-i-test.false)
