-- The pairs of a profile (`Profile::to_mz_intensity` of scan_data.rs) and of a peak list.
use Rattle.std.specs.Prelude.{ℕ, zero, suc, Bool, List, [], ◌∷◌, ◌++◌, map, Float, get_or}
use Rattle.std.specs.Float.{binary32, binary64}
use Rattle.std.specs.Float.Ieee.{of_bits}
use Rattle.lists.specs.Written.{each}
use Rattle.parser.specs.Parser.{Parsed, short, parsed, parse}
use Rattle.packet_profile.specs.Profile.{Chunk, points, chunk}
use Rattle.packet_profile.specs.declared.Profile.{Profile}
use Rattle.peaks.specs.Peaks.{Peak}
use Rattle.calibration.specs.Convert.{mz_of}
use Rattle.calibration.specs.declared.Bins.{Bins}

-- an m/z and an intensity
abbrev pub Pair : Type 0
Pair = Float × Float

-- a chunk and those after it, or none where it is not there
abbrev pub and_after : Parsed Chunk → (ℕ → List Chunk) → List Chunk
and_after short beyond = []
and_after (parsed c next) beyond = c ∷ beyond next

-- n chunks from a place on, as far as the run has them
unfoldable pub chunks_from : Bool → List ℕ → ℕ → ℕ → List Chunk
chunks_from fudged s zero at = []
chunks_from fudged s (suc n) at = and_after (parse (chunk fudged) s at) (chunks_from fudged s n)

-- a profile's chunks. All of them are there where the profile was read from this run
abbrev pub chunks_of : Profile → List ℕ → List Chunk
chunks_of p s = chunks_from p.fudged s p.peak_count p.chunks_at

-- where a profile's bins lie
abbrev pub bins_of : Profile → Bins
bins_of p = record { first_value = p.first_value; step = p.step }

-- the pair of a chunk's i-th bin
unfoldable pub pair_at : Bins → List ℕ → Chunk → ℕ → Pair
pair_at bins coefficients c i = (mz_of bins c.first_bin c.fudge coefficients i, of_bits binary32 (get_or c.signal i 0))

-- for each chunk, for each value of its signal: a pair
unfoldable pub pairs_of : Bins → List ℕ → List Chunk → List Pair
pairs_of bins coefficients [] = []
pairs_of bins coefficients (c ∷ others) = each (pair_at bins coefficients c) (points c) ++ pairs_of bins coefficients others

unfoldable pub profile_pairs : Profile → List ℕ → List ℕ → List Pair
profile_pairs p coefficients s = pairs_of (bins_of p) coefficients (chunks_of p s)

-- a peak list's pairs, widened
unfoldable pub peak_pairs : List Peak → List Pair
peak_pairs peaks = map (λ (p : Peak). (of_bits binary64 p.0, of_bits binary32 p.1)) peaks
