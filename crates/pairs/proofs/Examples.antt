-- Two chunks, the same with the last byte missing, and document 01's peak: antt computes each one.
use mathlib.Core.Path.{◌≡◌, refl}
use mathlib.Core.Bool.{true, false}
use mathlib.Core.List.{List, [], ◌∷◌, ◌++◌}
use Prim.Native.Nat.{ℕ}
use lib.IntN.{pos, negsuc}
use lib.Ieee.{Float, fin, binary64, round, of_bits, to_bits, of_int, add, mul, eq}
use Rattle.lists.specs.Written.{each}
use Rattle.parser.specs.Parser.{parse, repeat, counted}
use Rattle.packet_profile.specs.Profile.{chunk}
use Rattle.packet_profile.specs.declared.Profile.{Profile}
use Rattle.peaks.specs.Peaks.{peaks_at}
use Rattle.calibration.specs.Convert.{freq_to_mz, mz_of}
use Rattle.pairs.specs.Pairs.{chunks_from, pair_at, pairs_of, profile_pairs, peak_pairs}

-- n as a float
abbrev w : ℕ → Float
w n = of_int binary64 (pos n)

-- bins 100, 100.5, ..
abbrev two_chunks : Profile
two_chunks =
    record {
      first_value = 0x4059_0000_0000_0000;
      step = 0x3fe0_0000_0000_0000;
      peak_count = 2;
      nbins = 0;
      fudged = true;
      chunks_at = 1;
      points = 3;
    }

-- bin 2, two values, fudge 0.25: 1.0, 2.0; bin 10, one value, no fudge: 3.0, without its last byte
abbrev run : List ℕ
run =
    7 ∷ 2 ∷ 0 ∷ 0 ∷ 0 ∷ 2 ∷ 0 ∷ 0 ∷ 0 ∷ 0x00 ∷ 0x00 ∷ 0x80 ∷ 0x3e ∷ 0x00 ∷ 0x00 ∷ 0x80 ∷ 0x3f ∷ 0x00 ∷ 0x00 ∷ 0x00 ∷ 0x40
    ∷ 10 ∷ 0 ∷ 0 ∷ 0 ∷ 1 ∷ 0 ∷ 0 ∷ 0 ∷ 0x00 ∷ 0x00 ∷ 0x00 ∷ 0x00 ∷ 0x00 ∷ 0x00 ∷ 0x40 ∷ []

pub three_pairs : profile_pairs two_chunks [] (run ++ (0x40 ∷ [])) ≡ (fin false 405 (negsuc 1), w 1) ∷ (fin false 407 (negsuc 1), w 2) ∷ (w 105, w 3) ∷ []
unfolding of_bits of_int round add mul eq each parse repeat chunk counted freq_to_mz mz_of chunks_from pair_at pairs_of profile_pairs
three_pairs = refl

pub one_chunk_there : profile_pairs two_chunks [] run ≡ (fin false 405 (negsuc 1), w 1) ∷ (fin false 407 (negsuc 1), w 2) ∷ []
unfolding of_bits of_int round add mul eq each parse repeat chunk counted freq_to_mz mz_of chunks_from pair_at pairs_of profile_pairs
one_chunk_there = refl

-- 500.03125 as an f32, and 2.0
pub one_peak : peak_pairs (peaks_at false 8 (0x00 ∷ 0x04 ∷ 0xfa ∷ 0x43 ∷ 0x00 ∷ 0x00 ∷ 0x00 ∷ 0x40 ∷ []) 0 1) ≡ (fin false 16001 (negsuc 4), w 2) ∷ []
unfolding of_bits to_bits of_int round each peaks_at peak_pairs
one_peak = refl
