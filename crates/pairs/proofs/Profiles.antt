-- A profile that was read: the run has all of its chunks, they hold as many values as the profile says, and on longer bytes
-- they are the same.
use mathlib.Core.Path.{◌≡◌, ap, sym, ◌∙◌}
use Prim.Native.Nat.{ℕ, zero, suc}
use mathlib.Core.Bool.{Bool}
use mathlib.Core.List.{List, ◌++◌}
use lib.ListN.{length}
use Rattle.refusal.specs.Outcome.{ok}
use Rattle.parser.specs.Parser.{parsed, parse, repeat}
use Rattle.parser.specs.Walk.{sum}
use Rattle.parser.proofs.Walk.{first_of}
use Rattle.packet_profile.specs.Profile.{Chunk, points, chunk, profile_record, read_profile}
use Rattle.packet_profile.specs.declared.Profile.{Profile}
use Rattle.packet_profile.proofs.Answers.{profiled}
use Rattle.packet_profile.proofs.LongerBytes.{same_chunks}
use Rattle.pairs.specs.Pairs.{chunks_from, chunks_of, bins_of, pairs_of, profile_pairs}
use Rattle.pairs.proofs.Writing.{length_pairs}

pub chunks_parsed : (fudged : Bool) (s : List ℕ) (n at : ℕ) {cs : List Chunk} {end : ℕ} → parse (repeat n (chunk fudged)) s at ≡ parsed cs end → chunks_from fudged s n at ≡ cs
unfolding chunks_from parse repeat
chunks_parsed fudged s zero at h = cc
chunks_parsed fudged s (suc n) at h =
    let f = first_of (chunk fudged) n s at h in
    rw (f.here, chunks_parsed fudged s n f.next f.there) (sym f.both)

module _ (layout : ℕ) (s : List ℕ) (at : ℕ) {v : Profile} {next : ℕ} (e : ok (v, next) ≡ read_profile layout at s) where
  pub read_chunks : chunks_of v s ≡ (profiled layout s at e).value.1
  read_chunks = chunks_parsed v.fudged s v.peak_count v.chunks_at (profiled layout s at e).chunked

  pub read_points : sum points (chunks_of v s) ≡ v.points
  unfolding profile_record
  read_points = ap (sum points) read_chunks ∙ sym (ap (λ (p : Profile). p.points) (profiled layout s at e).made)

  pub read_pairs : (coefficients : List ℕ) → length (profile_pairs v coefficients s) ≡ v.points
  unfolding profile_pairs
  read_pairs coefficients = length_pairs (bins_of v) coefficients (chunks_of v s) ∙ read_points

  pub longer_chunks : (t : List ℕ) → chunks_of v (s ++ t) ≡ chunks_of v s
  longer_chunks t =
      let there = (profiled layout s at e).chunked in
      chunks_parsed v.fudged (s ++ t) v.peak_count v.chunks_at (same_chunks layout at s t e ∙ there)
      ∙ sym (chunks_parsed v.fudged s v.peak_count v.chunks_at there)

  -- a record that was read on s has the same pairs on longer bytes
  pub longer_pairs : (coefficients t : List ℕ) → profile_pairs v coefficients (s ++ t) ≡ profile_pairs v coefficients s
  unfolding profile_pairs
  longer_pairs coefficients t = ap (pairs_of (bins_of v) coefficients) (longer_chunks t)
