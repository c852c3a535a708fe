-- `tray_header::read_tray_header` meets its contract: each way out is decided by the tests that led there.
use native.Mathlib.Omega.{arith}
use borrow.Author.Tests.{le-leb, lt-leb}
use Rattle.tray_header.specs.Header.{judged}
use Rattle.tray_header.proofs.Answers.{short_header, whole_header}
use Rattle.tray_header.proofs.read_tray_header.Goals as goal

pub returns-then-remaining-lt32 : goal.returns-then-remaining-lt32
returns-then-remaining-lt32 c = short_header _ (omega arith)

pub returns-then-h-gt1 : goal.returns-then-h-gt1
unfolding judged
returns-then-h-gt1 c =
    whole_header c.args.tray.now (omega arith) c.fields-h.ensures (rw (lt-leb c.fields-h.result.flat 1 (omega arith)))

pub returns-then-h-gt4096 : goal.returns-then-h-gt4096
unfolding judged
returns-then-h-gt4096 c =
    whole_header c.args.tray.now (omega arith) c.fields-h.ensures (rw (le-leb c.fields-h.result.flat 1 (omega arith), lt-leb c.fields-h.result.scans 4096 (omega arith)))

pub returns : goal.returns
unfolding judged
returns c =
    whole_header c.args.tray.now (omega arith) c.fields-h.ensures (rw (le-leb c.fields-h.result.flat 1 (omega arith), le-leb c.fields-h.result.scans 4096 (omega arith)))
