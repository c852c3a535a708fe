-- The bytes of a packet's nodes; and whose nodes these are.
use Rattle.std.specs.Prelude.{Ok}
use mathlib.Core.Path.{◌≡◌, sym, ap, ◌∙◌}
use Prim.Native.Nat.{ℕ}
use mathlib.Core.List.{List, ◌++◌}
use lib.Ieee.{Float}
use Rattle.refusal.specs.Outcome.{Outcome, ok, on_ok}
use Rattle.refusal.proofs.Outcomes.{made_of}
use Rattle.noise.specs.Nodes.{nodes_of}
use Rattle.noise.specs.Line.{noise_at}
use Rattle.packet_record.specs.Packet.{node_bytes, with_nodes}
use Rattle.packet_record.specs.declared.ScanDataPacket.{ScanDataPacket}

-- A reader's promise says that the nodes at the places which it answers are those that it read. So noise by an answered packet is noise by
-- that packet's nodes
pub packet_nodes : {L : Type 0} (o : Outcome ((ScanDataPacket × List ℕ) × L)) (s : List ℕ) (p : ScanDataPacket) → with_nodes s (Ok p) ≡ on_ok (λ (v : (ScanDataPacket × List ℕ) × L). v.0) o
    → (v : (ScanDataPacket × List ℕ) × L) × (ok v ≡ o) × (node_bytes s p ≡ v.0.1) × ((mz : Float) → noise_at mz (nodes_of (node_bytes s p)) ≡ noise_at mz (nodes_of v.0.1))
packet_nodes {L} o s p h =
    let m = made_of (λ (v : (ScanDataPacket × List ℕ) × L). v.0) o h in
    let nodes = ap (λ (q : ScanDataPacket × List ℕ). q.1) m.made in
    (m.value, m.is, nodes, λ mz. ap (λ (bs : List ℕ). noise_at mz (nodes_of bs)) nodes)

-- A packet that was answered on s is also the answer on s ++ t, with the same outcome o (`packet_longer`, `skip_profile_longer`). Its nodes
-- are the same there, and so are noise and labels, which go by them alone
pub longer_nodes : (o : Outcome (ScanDataPacket × List ℕ)) (s t : List ℕ) (p : ScanDataPacket) → with_nodes s (Ok p) ≡ o → with_nodes (s ++ t) (Ok p) ≡ o
    → node_bytes (s ++ t) p ≡ node_bytes s p
longer_nodes o s t p h k =
    let e : ◌≡◌ {A = Outcome (ScanDataPacket × List ℕ)} (ok (p, node_bytes (s ++ t) p)) (ok (p, node_bytes s p)) = k ∙ sym h in
    let f : ◌≡◌ {A = ScanDataPacket × List ℕ} (p, node_bytes (s ++ t) p) (p, node_bytes s p) = cc in
    ap (λ (q : ScanDataPacket × List ℕ). q.1) f
