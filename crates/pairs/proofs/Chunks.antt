-- The chunks from a place on, by what stands there: a loop over them goes on chunk by chunk.
use mathlib.Core.Path.{◌≡◌, refl}
use Prim.Native.Nat.{ℕ, zero, suc, ◌+◌, ◌-◌, ◌<◌}
use native.Mathlib.Omega.{arith}
use mathlib.Core.Bool.{Bool}
use mathlib.Core.List.{List, [], ◌∷◌}
use Rattle.parser.specs.Parser.{short, parsed, parse}
use Rattle.packet_profile.specs.Profile.{Chunk, chunk}
use Rattle.pairs.specs.Pairs.{chunks_from}

module _ (fudged : Bool) (s : List ℕ) where
  pub chunks_none : (n at : ℕ) → parse (chunk fudged) s at ≡ short → chunks_from fudged s n at ≡ []
  unfolding chunks_from
  chunks_none zero at h = refl
  chunks_none (suc n) at h = rw h

  pub chunks_more : (n i at : ℕ) → i < n → {c : Chunk} {next : ℕ} → parse (chunk fudged) s at ≡ parsed c next
      → chunks_from fudged s (n - i) at ≡ c ∷ chunks_from fudged s (n - (i + 1)) next
  unfolding chunks_from
  chunks_more n i at l h = let e : n - i ≡ suc (n - (i + 1)) = omega arith in rw (e, h)

  pub chunks_done : (n at : ℕ) → chunks_from fudged s (n - n) at ≡ []
  unfolding chunks_from
  chunks_done n at = let e : n - n ≡ 0 = omega arith in rw e
