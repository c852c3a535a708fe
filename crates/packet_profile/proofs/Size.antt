-- The place after a profile that was parsed, by its size.
use mathlib.Core.Path.{◌≡◌, refl, ap, ◌∙◌}
use Prim.Native.Nat.{ℕ, zero, suc, ◌+◌, ◌*◌}
use native.Mathlib.Omega.{arith}
use mathlib.Core.Bool.{Bool}
use mathlib.Core.List.{List, []}
use Rattle.lists.proofs.Laws.{length-each}
use Rattle.parser.specs.Parser.{parsed, bytes, little_endian, parse, repeat}
use Rattle.parser.specs.Walk.{sum}
use Rattle.parser.proofs.Walk.{first_of}
use Rattle.packet_profile.specs.Profile.{is_fudged, Chunk, points, chunk, Axis, profile, head_size, size_of_profile, profile_record}
use Rattle.packet_profile.proofs.Chunks.{whole_chunk}
use Rattle.packet_profile.proofs.Answers.{profile_chunks}

module _ (fudged : Bool) (s : List ℕ) where
  abbrev size : Chunk → ℕ
  size c = head_size fudged + points c * 4

  chunk_end : (at : ℕ) {c : Chunk} {next : ℕ} → parse (chunk fudged) s at ≡ parsed c next → next ≡ at + size c
  chunk_end at {c} h =
      let n = little_endian (bytes s (at + 4) 4) in
      let w = whole_chunk fudged s at n refl h in
      let long : points c ≡ n = ap points w.is ∙ length-each _ n in
      omega (arith, w.end, long)

  chunks_end : (n at : ℕ) {cs : List Chunk} {next : ℕ} → parse (repeat n (chunk fudged)) s at ≡ parsed cs next → next ≡ at + sum size cs
  unfolding parse repeat
  chunks_end zero at {cs} {next} h =
      let none : cs ≡ [] = cc h in
      let here : next ≡ at = cc h in
      rw none (omega arith)
  chunks_end (suc n) at h =
      let f = first_of (chunk fudged) n s at h in
      let beyond = chunks_end n f.next f.there in
      let this = chunk_end at f.here in
      rw f.both (omega (arith, beyond, this))

pub profile_end : (layout : ℕ) (s : List ℕ) (at : ℕ) {p : Axis × List Chunk} {next : ℕ} → parse (profile layout) s at ≡ parsed p next → next ≡ at + size_of_profile layout p
unfolding profile_record
profile_end layout s at {p} h = let e = chunks_end (is_fudged layout) s p.0.peak_count (at + 24) (profile_chunks layout s at h) in omega (arith, e)
