-- Which pairs of a scan are listed, by the scan's format (document 02, L1). Document 01 lists all of them.
use Rattle.std.specs.Prelude.{Bool, true, List, Float}
use Rattle.std.specs.Float.Ieee.{ne}
use Rattle.lists.specs.Filter.{filter}
use Rattle.float_bits.specs.Numbers.{zero_f}
use Rattle.scan_format.specs.declared.ScanDataFormat.{ScanDataFormat}
use Rattle.scan_format.specs.declared.ScanDataFormat.TheVariants.{PacketHeader, FlatV63, FlatV66}
use Rattle.pairs.specs.Pairs.{Pair}

-- L1: of either flat kind, only a pair whose m/z is not zero. Both zeros equal 0.0, and a NaN does not
abbrev pub is_listed : ScanDataFormat → Float → Bool
is_listed PacketHeader mz = true
is_listed FlatV63 mz = ne mz zero_f
is_listed FlatV66 mz = ne mz zero_f

abbrev pub listed_pairs : ScanDataFormat → List Pair → List Pair
listed_pairs format ps = filter (λ p. is_listed format p.0) ps
