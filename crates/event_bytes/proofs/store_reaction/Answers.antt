-- `event_bytes::store_reaction` meets its contract: four words, one after the other.
use native.Mathlib.Omega.{arith}
use Rattle.event_bytes.proofs.Bytes.{stored_reaction}
use Rattle.event_bytes.proofs.store_reaction.Goals as goal

pub returns : goal.returns
returns c =
    let a = c.args in
    stored_reaction a.out.now a.at a.precursor a.energy (omega arith) c.store_u64.ensures c.saturating_add.ensures c.store_u64-2.ensures c.saturating_add-2.ensures c.store_u64-3.ensures c.saturating_add-3.ensures c.store_u64-4.ensures
