-- `scan_index::store_fields` meets its contract, by version.
use Rattle.scan_index.proofs.Stored.{stored_front, stored_wide, stored_long}
use Rattle.scan_index.proofs.store_fields.Goals as goal

pub returns-then-version-ge66 : goal.returns-then-version-ge66
returns-then-version-ge66 c =
    let a = c.args in
    stored_long a.version a.entry a.out.now c.store_front-2.ensures c.store_u64.ensures c.if-version-ge66.true c.store_u64-then-version-ge66.ensures

pub returns-else-version-ge66 : goal.returns-else-version-ge66
returns-else-version-ge66 c =
    let a = c.args in
    stored_wide a.version a.entry a.out.now c.store_front-2.ensures c.store_u64.ensures c.if-version-lt64.false c.if-version-ge66.false

pub returns-then-version-lt64 : goal.returns-then-version-lt64
returns-then-version-lt64 c =
    let a = c.args in
    stored_front a.version a.entry a.out.now c.if-version-lt64.true c.store_front.ensures
