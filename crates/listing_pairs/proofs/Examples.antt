-- L1 on masses about zero: antt computes each one.
use mathlib.Core.Path.{◌≡◌, refl}
use mathlib.Core.Bool.{true, false}
use mathlib.Core.List.{List, [], ◌∷◌}
use lib.IntN.{pos, negsuc}
use lib.Ieee.{Float, nan, inf, fin, binary32, binary64, of_bits, eq, ne}
use Rattle.scan_format.specs.declared.ScanDataFormat.TheVariants.{PacketHeader, FlatV63, FlatV66}
use Rattle.pairs.specs.Pairs.{Pair}
use Rattle.float_bits.specs.Numbers.{zero_f}
use Rattle.listing_pairs.specs.Listed.{listed_pairs}

abbrev two : Float
two = fin false 1 (pos 1)

-- zeros of both signs, and one that was widened
abbrev zeros : List Pair
zeros = (of_bits binary64 0, two) ∷ (of_bits binary64 0x8000_0000_0000_0000, two) ∷ (of_bits binary32 0x8000_0000, zero_f) ∷ []

-- the smallest subnormals of both widths, of either sign; a NaN, an infinity, 2 and -1/2, with intensities of zero among them
abbrev others : List Pair
others =
    (of_bits binary64 1, two) ∷ (of_bits binary64 0x8000_0000_0000_0001, two) ∷ (of_bits binary32 1, two) ∷ (of_bits binary32 0x8000_0001, two)
    ∷ (nan, zero_f) ∷ (inf true, two) ∷ (two, zero_f) ∷ (fin true 1 (negsuc 0), zero_f) ∷ []

pub flat_zeros : (listed_pairs FlatV63 zeros ≡ []) × (listed_pairs FlatV66 zeros ≡ [])
unfolding of_bits eq ne
flat_zeros = (refl, refl)

pub flat_others : (listed_pairs FlatV63 others ≡ others) × (listed_pairs FlatV66 others ≡ others)
unfolding of_bits eq ne
flat_others = (refl, refl)

pub packet_zeros : listed_pairs PacketHeader zeros ≡ zeros
packet_zeros = refl
