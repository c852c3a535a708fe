-- `srm_scan::count_channels` meets its contract: each way out is decided by the tests that led there.
use native.Mathlib.Omega.{arith}
use Rattle.srm_scan.proofs.Counting.{no_count, no_channels, short_table, whole_table}
use Rattle.srm_scan.proofs.count_channels.Goals as goal

pub returns-then-n-eq0 : goal.returns-then-n-eq0
returns-then-n-eq0 c =
    let a = c.args in
    let u = c.u32_at-n in
    no_channels a.size a.run.now a.at (omega arith) u.result u.ensures c.if-n-eq0.true

pub returns : goal.returns
returns c =
    let a = c.args in
    let u = c.u32_at-n in
    whole_table a.size a.run.now a.at (omega arith) u.result u.ensures c.if-n-eq0.false (omega arith)

pub returns-then-remaining-all : goal.returns-then-remaining-all
returns-then-remaining-all c =
    let a = c.args in
    let u = c.u32_at-n in
    short_table a.size a.run.now a.at (omega arith) u.result u.ensures c.if-n-eq0.false (omega arith)

pub returns-then-remaining-lt4 : goal.returns-then-remaining-lt4
returns-then-remaining-lt4 c =
    let a = c.args in
    no_count a.size a.run.now a.at (omega arith)
