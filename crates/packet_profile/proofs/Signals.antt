-- Where a chunk's signal stands, by the tests that decide it; and the chunk that stands there.
use mathlib.Core.Path.{◌≡◌, refl, ap, ◌∙◌}
use Prim.Native.Nat.{ℕ, ◌+◌, ◌*◌, ◌≤◌, ◌<◌}
use mathlib.Core.Bool.{Bool}
use mathlib.Core.List.{List}
use Rattle.refusal.specs.Outcome.{ok, refused, ran_out}
use Rattle.refusal.specs.Number.{outcome_of_refusal}
use Rattle.refusal.specs.declared.Part.TheVariants.{Data}
use Rattle.refusal.specs.declared.Refusal.{Refusal}
use Rattle.refusal.specs.declared.Refusal.TheVariants.{Short}
use Rattle.refusal.proofs.OneAnswer.{refusal_one}
use Rattle.lists.proofs.Laws.{length-each}
use Rattle.parser.specs.Parser.{short, parsed, bytes, little_endian, remaining, parse}
use Rattle.parser.specs.Call.{outcome}
use Rattle.parser.proofs.Answered.{found, ran_out_lem}
use Rattle.packet_profile.specs.Profile.{head_size, Chunk, points, chunk, find_signal}
use Rattle.packet_profile.specs.declared.Signal.{Signal}
use Rattle.packet_profile.proofs.Chunks.{chunk_at, chunk_short_head, chunk_short, chunk_parsed, whole_chunk}

pub points_at : (fudged : Bool) (s : List ℕ) (at n : ℕ) → points (chunk_at fudged s at n) ≡ n
points_at fudged s at n = length-each _ n

module _ (fudged : Bool) (s : List ℕ) (at : ℕ) where
  pub no_head : remaining s at < head_size fudged → ran_out 4 ≡ find_signal fudged at s
  unfolding find_signal outcome
  no_head t = rw (chunk_short_head fudged s at t)

  module _ (n : ℕ) (e : n ≡ little_endian (bytes s (at + 4) 4)) (t : head_size fudged ≤ remaining s at) where
    pub no_signal : remaining s (at + head_size fudged) < n * 4 → ran_out 4 ≡ find_signal fudged at s
    unfolding find_signal outcome
    no_signal u = rw (chunk_short fudged s at n e t u)

    pub signal_there : n * 4 ≤ remaining s (at + head_size fudged)
        → ok (record { at = at + head_size fudged; points = n; next = at + head_size fudged + n * 4 }) ≡ find_signal fudged at s
    unfolding find_signal outcome
    signal_there u = rw (chunk_parsed fudged s at n e t u, points_at fudged s at n)

  -- what a place of a signal says of the chunk
  pub record There (v : Signal) : Type 0 where
    pub here : parse (chunk fudged) s at ≡ parsed (chunk_at fudged s at v.points) v.next
    pub starts : v.at ≡ at + head_size fudged
    pub ends : v.next ≡ v.at + v.points * 4

  abbrev signal_of : Chunk → ℕ → Signal
  signal_of c next = record { at = at + head_size fudged; points = points c; next = next }

  pub there : {v : Signal} → ok v ≡ find_signal fudged at s → There v
  unfolding find_signal
  there {v} h =
      let count = little_endian (bytes s (at + 4) 4) in
      let f = found 4 at (chunk fudged) signal_of s h in
      let w = whole_chunk fudged s at count refl f.there in
      let size : v.points ≡ count = ap (λ (p : Signal). p.points) f.made ∙ ap points w.is ∙ points_at fudged s at count in
      let next : v.next ≡ f.next = ap (λ (p : Signal). p.next) f.made in
      let start : v.at ≡ at + head_size fudged = ap (λ (p : Signal). p.at) f.made in
      record { here = rw (size, next) (f.there ∙ ap (λ (d : Chunk). parsed d f.next) w.is); starts = start; ends = rw (start, size) (next ∙ w.end) }

  pub missing : {n : ℕ} {carries : List ℕ} → refused n carries ≡ find_signal fudged at s → parse (chunk fudged) s at ≡ short
  unfolding find_signal
  missing h = (ran_out_lem 4 at (chunk fudged) signal_of s h).there

  -- and no other part ran out
  pub missing_is : (r : Refusal) → outcome_of_refusal r ≡ find_signal fudged at s → r ≡ Short Data
  unfolding find_signal
  missing_is r h =
      let o = ran_out_lem 4 at (chunk fudged) signal_of s h in
      refusal_one {A = Signal} r (Short Data) (rw (o.one, o.part) refl)
