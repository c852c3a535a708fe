-- What is written of a whole packet: its lists by a call of their own, and then its chunks.
use Rattle.std.specs.Prelude.{Some, None, Option}
use mathlib.Core.Path.{◌≡◌, refl, ap, sym, ◌∙◌}
use Prim.Native.Nat.{ℕ}
use native.Mathlib.Omega.{arith}
use mathlib.Core.Bool.{Bool, true, false, ◌&&◌}
use mathlib.Core.List.{List, [], ◌∷◌, ◌++◌}
use lib.Dec.{leb}
use lib.ListN.{length, length-map}
use Rattle.refusal.specs.Outcome.{Outcome, ok, refused}
use Rattle.refusal.proofs.Outcomes.{ok_not_refused, refused_not_ok}
use Rattle.lists.specs.Left.{fits, if_fits, lengths, over_all, lists_if_fit, LeftLists, firsts, seconds}
use Rattle.lists.proofs.Left.{left_refused, left_written, wrote, stayed, fits_true}
use Rattle.parser.specs.Walk.{sum}
use Rattle.parser.proofs.Walk.{length-parsed}
use Rattle.packet_profile.specs.Profile.{Chunk, points, chunk}
use Rattle.packet_profile.specs.declared.Profile.{Profile}
use Rattle.packet_record.specs.Packet.{Contents, record_of, lists_of, packet_if_fits}
use Rattle.packet_record.specs.declared.PacketPlaces.{PacketPlaces}
use Rattle.packet_record.specs.declared.ScanDataPacket.{ScanDataPacket}
use Rattle.packet_full.specs.Full.{chunk_lists}
use Rattle.packet_full.specs.Internal.{found_chunks, ProfileThere, HasChunks, chunk_count, point_count, chunk_sizes}
use Rattle.packet_full.proofs.Writing.{signals_size}

-- chunks that are there are as many as the profile says
chunk_counts : (p : Option Profile) (s : List ℕ) → ProfileThere p s → (length (found_chunks p s) ≡ chunk_count p) × (sum points (found_chunks p s) ≡ point_count p)
chunk_counts None s t = (refl, refl)
chunk_counts (Some p) s t = (length-parsed (chunk p.fudged) p.peak_count s p.chunks_at t.there, t.values)

abbrev pub chunk_room : List Chunk → List ℕ → List ℕ → List ℕ → List ℕ → Bool
chunk_room cs b n f w = fits (lengths (chunk_lists cs)) (lengths (b ∷ n ∷ f ∷ w ∷ []))

-- so the test of their slices goes by the profile
pub tested : (p : Option Profile) (s b c f v : List ℕ) → ProfileThere p s → {room : Bool} → room ≡ fits (chunk_sizes p) (lengths (b ∷ c ∷ f ∷ v ∷ [])) → room ≡ chunk_room (found_chunks p s) b c f v
tested p s b c f v t e =
    let cs = found_chunks p s in
    let size = (chunk_counts p s t).0 in
    let bins = length-map cs (λ k. k.first_bin) ∙ size in
    let counts = length-map cs points ∙ size in
    let fudges = length-map cs (λ k. k.fudge) ∙ size in
    let signal = signals_size cs ∙ (chunk_counts p s t).1 in
    e ∙ rw (bins, counts, fudges, signal)

pub has_chunks : (p : Option Profile) (s b c f v : List ℕ) → ProfileThere p s → chunk_room (found_chunks p s) b c f v ≡ true → HasChunks p s b c f v
has_chunks None s b c f v t h = tt
has_chunks (Some p) s b c f v t h =
    let cs = found_chunks (Some p) s in
    let w = fits_true (lengths (chunk_lists cs)) (lengths (b ∷ c ∷ f ∷ v ∷ [])) h in
    let size = (chunk_counts (Some p) s t).0 in
    record {
      parsing = t;
      in_bins = omega (arith, w.0, length-map cs (λ k. k.first_bin), size);
      in_counts = omega (arith, w.1.0, length-map cs points, size);
      in_fudges = omega (arith, w.1.1.0, length-map cs (λ k. k.fudge), size);
      in_signal = omega (arith, w.1.1.1.0, signals_size cs, (chunk_counts (Some p) s t).1);
    }

-- two groups of slices are judged as one
four_and : (a b c d e : Bool) → (a && (b && (c && (d && e)))) ≡ ((a && (b && (c && (d && true)))) && e)
four_and true true true true e = refl
four_and true true true false e = refl
four_and true true false d e = refl
four_and true false c d e = refl
four_and false b c d e = refl

abbrev Answer : Type 0
Answer = (ScanDataPacket × List ℕ) × List (List ℕ)

module _ (v : PacketPlaces) (c : Contents) (cs : List Chunk) (m a d q b n f w : List ℕ) where
  abbrev lent : List (List ℕ)
  lent = m ∷ a ∷ d ∷ q ∷ b ∷ n ∷ f ∷ w ∷ []

  abbrev room_for : Bool
  room_for = fits (lengths (lists_of c)) (lengths (m ∷ a ∷ d ∷ q ∷ []))

  abbrev whole : Answer
  whole = ((record_of v, c.labels.nodes), lists_of c ++ chunk_lists cs)

  abbrev Reads : Outcome (ScanDataPacket × List ℕ) → List (List ℕ) → Type 0
  Reads r ys = LeftLists (λ k. packet_if_fits k v c (chunk_lists cs)) lent r ys

  by_groups : if_fits (room_for && chunk_room cs b n f w) whole ≡ packet_if_fits (lengths lent) v c (chunk_lists cs)
  unfolding packet_if_fits lists_if_fit
  by_groups = sym (ap (λ room. if_fits room whole) (four_and (leb (length (firsts c.peaks)) (length m)) (leb (length (seconds c.peaks)) (length a)) (leb (length c.labels.descriptors) (length d)) (leb (length c.labels.resolutions) (length q)) (chunk_room cs b n f w)))

  -- the slices of the chunks do not hold them
  pub no_chunk_room : chunk_room cs b n f w ≡ false → Reads (refused 8 []) lent
  no_chunk_room h = left_refused (go room_for ∙ ap (λ room. if_fits (room_for && room) whole) (sym h) ∙ by_groups)
    where
      go : (x : Bool) → refused 8 [] ≡ if_fits (x && false) whole
      go true = refl
      go false = refl

  abbrev Lists : Outcome (ScanDataPacket × List ℕ) → List (List ℕ) → Type 0
  Lists r ys = LeftLists (λ k. packet_if_fits k v c []) (m ∷ a ∷ d ∷ q ∷ []) r ys

  module _ {m' a' d' q' : List ℕ} where
    -- those of the lists do not
    pub lists_refused : {number : ℕ} {carries : List ℕ} → Lists (refused number carries) (m' ∷ a' ∷ d' ∷ q' ∷ []) → Reads (refused number carries) (m' ∷ a' ∷ d' ∷ q' ∷ b ∷ n ∷ f ∷ w ∷ [])
    unfolding packet_if_fits lists_if_fit
    lists_refused {number} {carries} l =
        let e = stayed l in
        rw (ap (λ xs. xs ++ (b ∷ n ∷ f ∷ w ∷ [])) e.1) (left_refused (go ((record_of v, c.labels.nodes), lists_of c) room_for e.0 ∙ by_groups))
      where
        go : (x : Answer) (y : Bool) → refused number carries ≡ if_fits y x → refused number carries ≡ if_fits (y && chunk_room cs b n f w) whole
        go x true h = refused_not_ok h
        go x false h = let i : number ≡ 8 = cc in let j : carries ≡ [] = cc in rw (i, j)

    -- both do
    pub all_written : chunk_room cs b n f w ≡ true → {b' n' f' w' : List ℕ} {r : ScanDataPacket × List ℕ} → Lists (ok r) (m' ∷ a' ∷ d' ∷ q' ∷ [])
        → (b' ∷ n' ∷ f' ∷ w' ∷ []) ≡ over_all (chunk_lists cs) (b ∷ n ∷ f ∷ w ∷ []) → Reads (ok r) (m' ∷ a' ∷ d' ∷ q' ∷ b' ∷ n' ∷ f' ∷ w' ∷ [])
    unfolding packet_if_fits lists_if_fit
    all_written h {b'} {n'} {f'} {w'} l k =
        let o = wrote l in
        let r = go room_for o.is in
        let lists = o.written ∙ ap (λ (x : Answer). over_all x.1 (m ∷ a ∷ d ∷ q ∷ [])) r.1 in
        let room : ok whole ≡ if_fits (room_for && chunk_room cs b n f w) whole = rw (r.0, h) in
        left_written {a = whole} (room ∙ by_groups) (o.answered ∙ ap (λ (x : Answer). x.0) r.1)
        (ap (λ xs. xs ++ (b' ∷ n' ∷ f' ∷ w' ∷ [])) lists ∙ ap (λ xs. over_all (lists_of c) (m ∷ a ∷ d ∷ q ∷ []) ++ xs) k)
      where
        go : {x y : Answer} (z : Bool) → ok x ≡ if_fits z y → (z ≡ true) × (x ≡ y)
        go true h = (refl, cc)
        go false h = ok_not_refused h
