-- A profile whose chunks are there. No public promise cites it.
use Rattle.std.specs.Prelude.{◌≡◌, ℕ, ◌≤◌, List, [], ◌∷◌, length, Some, None, Option}
use Rattle.parser.specs.Parser.{Parsed, short, parsed, parse, repeat}
use Rattle.parser.specs.Walk.{sum}
use Rattle.packet_profile.specs.Profile.{Chunk, points, chunk}
use Rattle.packet_profile.specs.declared.Profile.{Profile}

-- the chunks of a profile, as they are parsed
abbrev pub list_of : Parsed (List Chunk) → List Chunk
list_of short = []
list_of (parsed cs next) = cs

unfoldable pub chunk_list : Profile → List ℕ → List Chunk
chunk_list p s = list_of (parse (repeat p.peak_count (chunk p.fudged)) s p.chunks_at)

abbrev pub found_chunks : Option Profile → List ℕ → List Chunk
found_chunks None s = []
found_chunks (Some p) s = chunk_list p s

-- they are there, and hold as many values as the profile says
pub record Parsing (p : Profile) (s : List ℕ) : Type 0 where
  pub end : ℕ
  pub there : parse (repeat p.peak_count (chunk p.fudged)) s p.chunks_at ≡ parsed (chunk_list p s) end
  pub values : sum points (chunk_list p s) ≡ p.points

abbrev pub ProfileThere : Option Profile → List ℕ → Type 0
ProfileThere None s = Unit {0}
ProfileThere (Some p) s = Parsing p s

-- and the slices hold them
pub record ChunksThere (p : Profile) (s b c f v : List ℕ) : Type 0 where
  pub parsing : Parsing p s
  pub in_bins : p.peak_count ≤ length b
  pub in_counts : p.peak_count ≤ length c
  pub in_fudges : p.peak_count ≤ length f
  pub in_signal : p.points ≤ length v

abbrev pub HasChunks : Option Profile → List ℕ → List ℕ → List ℕ → List ℕ → List ℕ → Type 0
HasChunks None s b c f v = Unit {0}
HasChunks (Some p) s b c f v = ChunksThere p s b c f v

abbrev pub chunk_count : Option Profile → ℕ
chunk_count None = 0
chunk_count (Some p) = p.peak_count

abbrev pub point_count : Option Profile → ℕ
point_count None = 0
point_count (Some p) = p.points

abbrev pub chunk_sizes : Option Profile → List ℕ
chunk_sizes p = chunk_count p ∷ chunk_count p ∷ chunk_count p ∷ point_count p ∷ []
