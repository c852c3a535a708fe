-- What a profile asks for after the end of the bytes: zeros make every further chunk empty.
use mathlib.Core.Path.{◌≡◌, sym, ◌∙◌}
use Prim.Native.Nat.{ℕ, ◌+◌, ◌*◌, ◌^◌, ◌≤◌, ◌<◌}
use native.Mathlib.Omega.{arith}
use mathlib.Core.Bool.{Bool, true, false}
use mathlib.Core.List.{List, ◌++◌}
use lib.Dec.{lit≤}
use Rattle.refusal.specs.Outcome.{ok}
use Rattle.refusal.specs.Number.{outcome_of}
use Rattle.refusal.proofs.OneAnswer.{answer_one}
use Rattle.parser.specs.Parser.{parse, repeat, counted}
use Rattle.parser.specs.LongerBytes.{OnLongerBytes}
use Rattle.parser.proofs.Prefix.{prefix_parsed}
use Rattle.parser.proofs.Completion.{extent, bounded_more, ValueInvariant, invariant_word}
use Rattle.parser.proofs.Records.{OnePart, single_part}
use Rattle.parser.proofs.DemandBound.{DemandBound, Any, demand_sized, demand_known, demand_more, demand_done, demand_ahead, demand_repeat, demand_bind}
use Rattle.packet_profile.specs.Profile.{is_fudged, points, head_size, chunk, find_signal, Axis, axis, profile, profile_record, read_profile}
use Rattle.packet_profile.specs.declared.Profile.{Profile}
use Rattle.packet_profile.proofs.Chunks.{Head, head, values, chunks, whole, rest, staged, head_sized, values_sized}
use Rattle.packet_profile.proofs.Answers.{axis_sized, paired, profiled}
use Rattle.packet_profile.proofs.Answers.{rest as beyond}

-- counts that were read are below 2^32
BoundedCount : Head → Type 0
BoundedCount h = h.count < 256 ^ 4

BoundedPeaks : Axis → Type 0
BoundedPeaks a = a.peak_count < 256 ^ 4

head_most : (fudged : Bool) → head_size fudged ≤ 12
head_most true = lit≤ tt
head_most false = lit≤ tt

head_bounded : (fudged : Bool) → ValueInvariant BoundedCount (head fudged)
unfolding head BoundedCount
head_bounded true = λ _ _ _ bs l p _ _ _. invariant_word 4 bs l p
head_bounded false = λ _ _ _ bs l p. invariant_word 4 bs l p

axis_bounded : ValueInvariant BoundedPeaks axis
unfolding axis BoundedPeaks
axis_bounded = λ _ _ _ _ _ _ bs l p _ _ _. invariant_word 4 bs l p

-- a chunk of zeros is a head alone
chunk_zeros : (fudged : Bool) → extent (chunk fudged) ≤ 12
unfolding chunk counted repeat
chunk_zeros true = lit≤ tt
chunk_zeros false = lit≤ tt

module _ (far : ℕ) where
  rest_demand : (h : Head) → BoundedCount h → DemandBound far (2 ^ 34) Any (rest h)
  unfolding rest whole BoundedCount
  rest_demand h c =
      demand_bind far (2 ^ 34) 0 Any Any (whole h) (λ _ _. demand_done far 0 Any _ tt) (values h.count)
      (demand_more far (h.count * 4) (2 ^ 34) (values h.count) Any (omega arith) (demand_sized far (h.count * 4) (values h.count) (values_sized h.count)))

  chunk_demand : (fudged : Bool) → DemandBound far (12 + 2 ^ 34) Any (chunk fudged)
  chunk_demand fudged =
      rw staged
      (demand_bind far 12 (2 ^ 34) BoundedCount Any rest rest_demand (head fudged)
      (demand_more far (head_size fudged) 12 (head fudged) BoundedCount (head_most fudged)
      (demand_known far (head_size fudged) (head fudged) Any BoundedCount (demand_sized far (head_size fudged) (head fudged) (head_sized fudged)) (head_bounded fudged))))

  -- so up to 2^32 - 1 chunks of up to 2^32 - 1 values ask for fewer than 2^37 bytes after the end
  chunks_demand : (fudged : Bool) (n : ℕ) → n < 256 ^ 4 → DemandBound far (2 ^ 37) Any (chunks fudged n)
  unfolding counted
  chunks_demand fudged n h =
      demand_ahead far (2 ^ 37) (n * 8) Any (repeat n (chunk fudged)) (omega arith)
      (demand_more far (12 + 2 ^ 34 + n * 12) (2 ^ 37) (repeat n (chunk fudged)) Any (omega arith) (demand_repeat far (12 + 2 ^ 34) 12 n (chunk fudged) Any (chunk_demand fudged) (chunk_zeros fudged)))

  after_demand : (layout : ℕ) (a : Axis) → BoundedPeaks a → DemandBound far (2 ^ 37) Any (beyond layout a)
  unfolding beyond paired BoundedPeaks
  after_demand layout a c =
      demand_bind far (2 ^ 37) 0 Any Any (paired a) (λ _ _. demand_done far 0 Any _ tt) (chunks (is_fudged layout) a.peak_count) (chunks_demand (is_fudged layout) a.peak_count c)

  pub profile_demand : (layout : ℕ) → DemandBound far (24 + 2 ^ 37) Any (profile layout)
  unfolding profile beyond paired
  profile_demand layout =
      demand_bind far 24 (2 ^ 37) BoundedPeaks Any (beyond layout) (after_demand layout) axis (demand_known far 24 axis Any BoundedPeaks (demand_sized far 24 axis axis_sized) axis_bounded)

-- demand 3
module _ (layout at : ℕ) where
  pub profile_part : OnePart outcome_of 4 at (read_profile layout at)
  unfolding read_profile
  profile_part =
      single_part 4 at (profile layout) (λ p next. ok (profile_record layout at p, next)) outcome_of answer_one
      (bounded_more (2 ^ 62) (24 + 2 ^ 37) (2 ^ 61) (profile layout) (lit≤ tt) (profile_demand (2 ^ 62) layout).bounded) (λ _ _. tt)

  pub profile_longer : OnLongerBytes outcome_of (λ s r (_ : Unit {0}). outcome_of r ≡ read_profile layout at s) (λ q. q ≡ 4) (λ _ _. at < 2 ^ 62)
  profile_longer = profile_part.longer

  -- the chunks of a profile that was read on s are the same on longer bytes
  pub same_chunks : (s t : List ℕ) {v : Profile} {next : ℕ} → ok (v, next) ≡ read_profile layout at s
      → parse (repeat v.peak_count (chunk v.fudged)) (s ++ t) v.chunks_at ≡ parse (repeat v.peak_count (chunk v.fudged)) s v.chunks_at
  same_chunks s t {v} e =
      let c = (profiled layout s at e).chunked in
      prefix_parsed (repeat v.peak_count (chunk v.fudged)) s t v.chunks_at c ∙ sym c

pub signal_longer : (fudged : Bool) (at : ℕ)
    → OnLongerBytes outcome_of (λ s r (_ : Unit {0}). outcome_of r ≡ find_signal fudged at s) (λ q. q ≡ 4) (λ _ _. at < 2 ^ 62)
unfolding find_signal
signal_longer fudged at =
    (single_part 4 at (chunk fudged) (λ c next. ok (record { at = at + head_size fudged; points = points c; next = next })) outcome_of answer_one
    (bounded_more (2 ^ 62) (12 + 2 ^ 34) (2 ^ 61) (chunk fudged) (lit≤ tt) (chunk_demand (2 ^ 62) fudged).bounded) (λ _ _. tt)).longer
