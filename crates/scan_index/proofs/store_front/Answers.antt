-- `scan_index::store_front` meets its contract: twelve stores, one behind the other.
use Rattle.scan_index.proofs.Stored.{stored_fields}
use Rattle.scan_index.proofs.store_front.Goals as goal

pub returns : goal.returns
returns c =
    let a = c.args in
    stored_fields a.entry a.out.now c.store_u32.ensures c.store_u32-2.ensures c.store_u16.ensures c.store_u16-2.ensures c.store_u64.ensures c.store_u32-3.ensures c.store_u64-2.ensures c.store_u64-3.ensures c.store_u64-4.ensures c.store_u64-5.ensures c.store_u64-6.ensures c.store_u64-7.ensures
