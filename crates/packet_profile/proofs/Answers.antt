-- What reading a profile answers, by the tests that decide it.
use Rattle.std.specs.Prelude.{Ok, Err}
use Rattle.refusal.specs.declared.Part.TheVariants.{Data}
use Rattle.refusal.specs.declared.Refusal.{Refusal}
use Rattle.refusal.specs.declared.Refusal.TheVariants.{Short}
use Rattle.refusal.specs.Number.{outcome_of_refusal}
use mathlib.Core.Path.{◌≡◌, refl, ap, sym, ◌∙◌}
use Prim.Native.Nat.{ℕ, ◌+◌, ◌*◌, ◌≤◌, ◌<◌}
use native.Mathlib.Nat.{add-zero}
use native.Mathlib.Omega.{arith}
use mathlib.Core.Bool.{Bool}
use mathlib.Core.List.{List}
use lib.Dec.{leb}
use borrow.Author.Tests.{le-leb, lt-leb}
use Rattle.refusal.specs.Outcome.{ok, refused, ran_out}
use Rattle.parser.specs.Parser.{Parser, Parsed, short, parsed, done, bytes, little_endian, remaining, within, parse, repeat, counted, ◌>>=◌}
use Rattle.parser.specs.Walk.{sum}
use Rattle.parser.specs.Call.{outcome}
use Rattle.parser.specs.Internal.{Sized}
use Rattle.parser.proofs.Prefix.{within_parsed, parse_bind, bind_parsed}
use Rattle.parser.proofs.Fixed.{parse_sized, parse_stage}
use Rattle.parser.proofs.Answered.{found, RanOut, ran_out_lem}
use Rattle.packet_profile.specs.Profile.{is_fudged, Chunk, points, chunk, Axis, axis, profile, profile_record, read_profile}
use Rattle.packet_profile.specs.Internal.{chunks_answer}
use Rattle.packet_profile.proofs.Chunks.{chunks}
use Rattle.packet_profile.specs.declared.Profile.{Profile}
use Rattle.packet_profile.specs.declared.ChunkList.{ChunkList}

pub axis_sized : Sized 24 axis
unfolding axis
axis_sized = λ _ _ _ _. tt

abbrev pub axis_at : List ℕ → ℕ → ℕ → Axis
axis_at s at count = record { first_value = little_endian (bytes s at 8); step = little_endian (bytes s (at + 8) 8); peak_count = count; nbins = little_endian (bytes s (at + 20) 4) }

-- what is made of the chunks, and of the axis
unfoldable pub paired : Axis → List Chunk → Parser (Axis × List Chunk)
paired a cs = done (a, cs)

unfoldable pub rest : ℕ → Axis → Parser (Axis × List Chunk)
rest layout a = chunks (is_fudged layout) a.peak_count >>= paired a

-- what an answer on chunks says of them
pub record Listed (o : Parsed (List Chunk)) (w next : ℕ) : Type 0 where
  pub list : List Chunk
  pub there : o ≡ parsed list next
  pub holds : sum points list ≡ w

listed : (o : Parsed (List Chunk)) (w next : ℕ) → Ok (record { points = w; next = next }) ≡ chunks_answer o → Listed o w next
listed short w next h = let c : ◌≡◌ {A = ℕ} 0 1 = cc in absurd (omega arith)
listed (parsed cs end) w next h =
    let same : ◌≡◌ {A = ChunkList} (record { points = w; next = next }) (record { points = sum points cs; next = end }) = cc in
    record { list = cs; there = ap (parsed cs) (sym (ap (λ (c : ChunkList). c.next) same)); holds = sym (ap (λ (c : ChunkList). c.points) same) }

unlisted : (r : Refusal) (o : Parsed (List Chunk)) → Err r ≡ chunks_answer o → (o ≡ short) × (r ≡ Short Data)
unlisted r short h = (refl, cc)
unlisted r (parsed cs end) h = let c : ◌≡◌ {A = ℕ} 0 1 = cc in absurd (omega arith)

module _ (layout : ℕ) (s : List ℕ) (at : ℕ) where
  to_chunks : (count : ℕ) → count ≡ little_endian (bytes s (at + 16) 4)
      → parse (profile layout) s at ≡ within (leb 24 (remaining s at)) (parse (rest layout (axis_at s at count)) s (at + 24))
  unfolding profile rest paired axis
  to_chunks count e = let place : at + 0 ≡ at = add-zero at in parse_stage 24 axis (rest layout) axis_sized s at ∙ rw (place, ← e)

  pub short_axis : remaining s at < 24 → ran_out 4 ≡ read_profile layout at s
  unfolding read_profile outcome
  short_axis t = rw (to_chunks (little_endian (bytes s (at + 16) 4)) refl, lt-leb _ _ t)

  module _ (count : ℕ) (e : count ≡ little_endian (bytes s (at + 16) 4)) (t : 24 ≤ remaining s at) where
    list : Parsed (List Chunk)
    list = parse (repeat count (chunk (is_fudged layout))) s (at + 24)

    to_list : parse (profile layout) s at ≡ parse (rest layout (axis_at s at count)) s (at + 24)
    to_list = to_chunks count e ∙ rw (le-leb _ _ t)

    pub short_count : remaining s (at + 24) < count * 8 → ran_out 4 ≡ read_profile layout at s
    unfolding read_profile outcome rest counted parse
    short_count u = rw (to_list, parse_bind (chunks (is_fudged layout) count) (paired (axis_at s at count)) s (at + 24), lt-leb _ _ u)

    module _ (u : count * 8 ≤ remaining s (at + 24)) where
      is_list : parse (chunks (is_fudged layout) count) s (at + 24) ≡ list
      unfolding counted parse list
      is_list = rw (le-leb _ _ u)

      pub short_chunks : (fudged : Bool) → fudged ≡ is_fudged layout → (r : Refusal) → Err r ≡ chunks_answer (parse (repeat count (chunk fudged)) s (at + 24))
          → outcome_of_refusal r ≡ read_profile layout at s
      unfolding read_profile outcome rest list
      short_chunks fudged f r i =
          let j = rw f at i in
          let u = unlisted r list j in
          rw (to_list, parse_bind (chunks (is_fudged layout) count) (paired (axis_at s at count)) s (at + 24), is_list, u.0, u.1)

      pub whole_profile : (fudged : Bool) → fudged ≡ is_fudged layout → (c : ChunkList) → Ok c ≡ chunks_answer (parse (repeat count (chunk fudged)) s (at + 24))
          → ok (
            record {
              first_value = little_endian (bytes s at 8);
              step = little_endian (bytes s (at + 8) 8);
              peak_count = count;
              nbins = little_endian (bytes s (at + 20) 4);
              fudged = fudged;
              chunks_at = at + 24;
              points = c.points;
            },
            c.next,
          )
          ≡ read_profile layout at s
      unfolding read_profile outcome rest list profile_record paired parse
      whole_profile fudged f c i =
          let j = rw f at i in
          let l = listed list c.points c.next j in
          rw (f, to_list, parse_bind (chunks (is_fudged layout) count) (paired (axis_at s at count)) s (at + 24), is_list, l.there, l.holds)

-- the chunks of a profile that was parsed, by its record
chunked_of : (layout : ℕ) (s : List ℕ) (at : ℕ) (p : Axis × List Chunk) (a : Axis) (cs : List Chunk) (place next end : ℕ)
    → p ≡ (a, cs) → place ≡ at + 24 → end ≡ next → parse (repeat a.peak_count (chunk (is_fudged layout))) s place ≡ parsed cs end
    → let v = profile_record layout at p in parse (repeat v.peak_count (chunk v.fudged)) s v.chunks_at ≡ parsed p.1 next
unfolding profile_record
chunked_of layout s at p a cs place next end b q n h = rw (b, ← q, ← n) h

pub profile_chunks : (layout : ℕ) (s : List ℕ) (at : ℕ) {p : Axis × List Chunk} {next : ℕ} → parse (profile layout) s at ≡ parsed p next
    → let v = profile_record layout at p in parse (repeat v.peak_count (chunk v.fudged)) s v.chunks_at ≡ parsed p.1 next
unfolding profile rest paired counted parse
profile_chunks layout s at {p} {next} h =
    let a = bind_parsed axis (rest layout) s at h in
    let c = bind_parsed (chunks (is_fudged layout) a.first.peak_count) (paired a.first) s a.middle a.there in
    let w = within_parsed (leb 24 (remaining s at)) _ (sym (parse_sized 24 axis axis_sized s at) ∙ a.here) in
    let i = within_parsed (leb (a.first.peak_count * 8) (remaining s a.middle)) _ c.here in
    chunked_of layout s at p a.first c.first a.middle next c.middle (cc c.there) (cc w.1) (cc c.there) i.1

-- a profile that was read
pub record Profiled (layout : ℕ) (s : List ℕ) (at : ℕ) (v : Profile) (next : ℕ) : Type 0 where
  pub value : Axis × List Chunk
  pub there : parse (profile layout) s at ≡ parsed value next
  pub made : v ≡ profile_record layout at value
  pub chunked : parse (repeat v.peak_count (chunk v.fudged)) s v.chunks_at ≡ parsed value.1 next

by_record : (v w : Profile) (s : List ℕ) {o : Parsed (List Chunk)} → v ≡ w → parse (repeat w.peak_count (chunk w.fudged)) s w.chunks_at ≡ o
    → parse (repeat v.peak_count (chunk v.fudged)) s v.chunks_at ≡ o
by_record v w s e h = rw e h

pub profiled : (layout : ℕ) (s : List ℕ) (at : ℕ) {v : Profile} {next : ℕ} → ok (v, next) ≡ read_profile layout at s → Profiled layout s at v next
unfolding read_profile
profiled layout s at {v} {next} e =
    let f = found 4 at (profile layout) (λ (p : Axis × List Chunk) (end : ℕ). (profile_record layout at p, end)) s e in
    let there : parse (profile layout) s at ≡ parsed f.value next = f.there ∙ ap (parsed f.value) (sym (ap (λ (w : Profile × ℕ). w.1) f.made)) in
    let made : v ≡ profile_record layout at f.value = ap (λ (w : Profile × ℕ). w.0) f.made in
    record { value = f.value; there = there; made = made; chunked = by_record v (profile_record layout at f.value) s made (profile_chunks layout s at there) }

pub unprofiled : (layout : ℕ) (s : List ℕ) (at : ℕ) {n : ℕ} {carries : List ℕ} → refused n carries ≡ read_profile layout at s → RanOut 4 (profile layout) s at n carries
unfolding read_profile
unprofiled layout s at e = ran_out_lem 4 at (profile layout) (λ (p : Axis × List Chunk) (end : ℕ). (profile_record layout at p, end)) s e
