-- One test decides.
use native.Mathlib.Omega.{arith}
use Rattle.packet_labels.proofs.Answers.{labels_short, labels_whole}
use Rattle.packet_labels.proofs.read_labels.Goals as goal

pub returns-then-descriptors-unknown : goal.returns-then-descriptors-unknown
returns-then-descriptors-unknown c =
    let a = c.args in
    rw (c.word_count.ensures, c.word_count-then-descriptors-unknown.ensures) (labels_whole a.h a.peaks a.run.now a.at (omega arith))

pub returns : goal.returns
returns c =
    let a = c.args in
    labels_short a.h a.peaks a.run.now a.at (omega arith)
