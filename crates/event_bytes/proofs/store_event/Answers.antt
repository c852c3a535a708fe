-- `event_bytes::store_event` meets its contract: nine parts, one after the other.
use Rattle.event_bytes.proofs.Bytes.{stored_event}
use Rattle.event_bytes.proofs.store_event.Goals as goal

pub returns : goal.returns
returns c =
    let a = c.args in
    stored_event a.version a.window a.preamble.now a.precursors.now a.energies.now a.coefficients.now a.out.now c.min-n.ensures c.store_bytes.ensures c.store_u32.ensures c.store_reactions.ensures c.store_u32-2.ensures c.store_u64.ensures c.store_u64-2.ensures c.store_u32-3.ensures c.store_u64s.ensures c.store_u64-3.ensures
