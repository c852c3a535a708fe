-- What reading a whole packet answers, by what its stages found.
use Rattle.std.specs.Prelude.{Option}
use mathlib.Core.Path.{◌≡◌, refl, ap, sym, subst, ◌∙◌}
use Prim.Native.Nat.{ℕ, ◌+◌}
use mathlib.Core.List.{List}
use Rattle.refusal.specs.Outcome.{ok, refused}
use Rattle.parser.specs.Parser.{parsed, parse}
use Rattle.parser.specs.Walk.{sum}
use Rattle.parser.specs.Call.{outcome}
use Rattle.packet_header.specs.declared.PacketHeader.{PacketHeader}
use Rattle.packet_profile.specs.Profile.{points, profile_record}
use Rattle.packet_profile.proofs.Answers.{profile_chunks}
use Rattle.packet_profile.specs.declared.Profile.{Profile}
use Rattle.packet_record.specs.Packet.{OptionalProfile, absent, present, Contents, contents_at, profile_place, packet_if_fits}
use Rattle.packet_record.specs.declared.PacketPlaces.{PacketPlaces}
use Rattle.packet_places.specs.Packet.{optional_profile}
use Rattle.packet_places.specs.Places.{find_places}
use Rattle.packet_places.proofs.Stages.{present_parsed}
use Rattle.packet_places.proofs.Answers.{packet_short, Standing, standing}
use Rattle.packet_full.specs.Full.{chunk_lists, chunks_in, read_packet}
use Rattle.packet_full.specs.Internal.{chunk_list, found_chunks, ProfileThere}

-- a profile's chunks, by its place
record Chunked (v : Option Profile) (p : OptionalProfile) (s : List ℕ) : Type 0 where
  there : ProfileThere v s
  list : found_chunks v s ≡ chunks_in p

chunked_as : (h : PacketHeader) (s : List ℕ) (at : ℕ) (p : OptionalProfile) (next : ℕ) → parse (optional_profile h) s (at + 40) ≡ parsed p next
    → Chunked (profile_place h.layout at p) p s
unfolding chunk_list profile_record
chunked_as h s at absent next e = record { there = tt; list = refl }
chunked_as h s at (present p) next e =
    let v = profile_record h.layout (at + 40) p in
    let c = profile_chunks h.layout s (at + 40) (present_parsed h s (at + 40) p next e) in
    let list : chunk_list v s ≡ p.1 = rw c in
    record {
      there = record { end = next; there = c ∙ ap (λ l. parsed l next) (sym list); values = ap (sum points) list };
      list = list;
    }

module _ (s : List ℕ) (at : ℕ) where
  -- the chunks of a packet that was found
  chunked : {v : PacketPlaces} (t : Standing s at v) → Chunked v.profile t.profile s
  chunked t = subst (λ q. Chunked q t.profile s) (sym t.is) (chunked_as t.header s at t.profile t.next t.profile_there)

  module _ (capacities : List ℕ) where
    pub places_short : {n : ℕ} {carries : List ℕ} → refused n carries ≡ find_places at s → refused n carries ≡ read_packet capacities at s
    unfolding read_packet outcome
    places_short e = let r = packet_short s at e in rw (r.one, r.part, r.there)

    pub places_found : {v : PacketPlaces} {c : Contents} → ok (v, c) ≡ find_places at s
        → packet_if_fits capacities v (contents_at s v) (chunk_lists (found_chunks v.profile s)) ≡ read_packet capacities at s
    unfolding read_packet outcome
    places_found {v} e =
        let t = standing s at e in
        let w = t.stands in
        ap (λ cs. packet_if_fits capacities v (contents_at s v) (chunk_lists cs)) ((chunked t).list ∙ ap chunks_in (sym w.profile_is))
        ∙ ap (λ c. packet_if_fits capacities v c (chunk_lists (chunks_in w.packet.profile))) w.contents
        ∙ ap (λ (q : PacketPlaces). packet_if_fits capacities q w.packet.contents (chunk_lists (chunks_in w.packet.profile))) w.placed ∙ rw w.there

  pub profile_there : {v : PacketPlaces} {c : Contents} → ok (v, c) ≡ find_places at s → ProfileThere v.profile s
  profile_there e = (chunked (standing s at e)).there
