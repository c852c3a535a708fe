-- The layout of scan data by the file's version, where the peaks are flat, and what each layout is called (scan_format.rs).
use Rattle.std.specs.Prelude.{ℕ, Bool, true, false, cond, List, leb}
use Rattle.text.specs.Text.{ascii}
use Rattle.scan_format.specs.declared.ScanDataFormat.{ScanDataFormat}
use Rattle.scan_format.specs.declared.ScanDataFormat.TheVariants.{PacketHeader, FlatV63, FlatV66}

unfoldable pub format_of : ℕ → Bool → ScanDataFormat
format_of version flat_peaks = cond flat_peaks (cond (leb version 63) FlatV63 FlatV66) PacketHeader

abbrev pub flat : ScanDataFormat → Bool
flat PacketHeader = false
flat FlatV63 = true
flat FlatV66 = true

abbrev pub display_name : ScanDataFormat → List ℕ
display_name PacketHeader = ascii "PacketHeader"
display_name FlatV63 = ascii "FlatV63 (TSQ Vantage SRM)"
display_name FlatV66 = ascii "FlatV66 (TSQ Quantiva/Altis SRM)"
