-- `scan_index::fields` meets its contract: each field is the number at its place, and `cc` joins the eleven fields with the calls.
use borrow.Author.Tests.{le-leb, lt-leb}
use native.Mathlib.Nat.{add-zero}
use native.Mathlib.Omega.{arith}
use lib.Dec.{leb}
use Rattle.scan_index.specs.Entry.{layout}
use Rattle.scan_index.proofs.Size.{value_long}
use Rattle.scan_index.proofs.fields.Goals as goal

pub returns : goal.returns
unfolding layout
returns c =
    let a = c.args in
    let s = a.run.now in
    rw (value_long (leb 64 a.version) (leb 66 a.version) s a.at) (grind (arith, le-leb, lt-leb, add-zero a.at))
