-- Entries follow one another, and 2^32 of them stand below 2^64.
use mathlib.Core.Path.{ap, ◌∙◌}
use Prim.Native.Nat.{◌+◌, ◌*◌, ◌^◌, ◌≤◌, ◌<◌}
use native.Mathlib.Nat.{mul-le-mul_left}
use native.Mathlib.Omega.{arith}
use Rattle.scan_index.specs.Entry.{read_entry}
use Rattle.scan_index.proofs.Size.{entry_most}
use Rattle.tray_scan.proofs.entry_of.Goals as goal
use Rattle.tray_scan.proofs.entry_of.Goals.{After-min_size_for_version-size}

small : (c : After-min_size_for_version-size) → c.args.k * c.min_size_for_version-size.result < 2 ^ 39
small c =
    let few : c.min_size_for_version-size.result ≤ 88 = rw c.min_size_for_version-size.ensures (entry_most c.args.h.version) in
    omega (arith, mul-le-mul_left c.args.k few)

pub overflow_mul-k : goal.overflow_mul-k
overflow_mul-k c = omega (arith, small (goal.at.overflow_mul-k c).After-min_size_for_version-size)

pub overflow_add-h : goal.overflow_add-h
overflow_add-h c = omega (arith, small (goal.at.overflow_add-h c).After-min_size_for_version-size)

pub returns : goal.returns
returns c =
    let a = c.args in
    c.read.ensures ∙ ap (λ n. read_entry a.h.version (a.h.index + a.k * n) a.run.now) c.min_size_for_version-size.ensures
