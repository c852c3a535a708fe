-- Document 01's worked case, and one of L1, from a tray's bytes to the listing's: antt computes them.
use mathlib.Core.Path.{◌≡◌, refl}
use Prim.Native.Nat.{ℕ}
use mathlib.Core.List.{List, [], ◌∷◌, ◌++◌}
use lib.Ieee.{of_bits, to_bits, of_int, round, eq, ne, lt, le}
use lib.ListN.{replicate}
use Rattle.lists.specs.Written.{each, over}
use Rattle.lists.specs.Left.{lists_and_pairs_if_fit}
use Rattle.text.specs.Text.{ascii}
use Rattle.parser.specs.Parser.{parse, repeat, counted}
use Rattle.parser.specs.Call.{outcome}
use Rattle.event_preamble.specs.Size.{size_for_version}
use Rattle.scan_format.specs.Format.{format_of}
use Rattle.scan_index.specs.Entry.{layout}
use Rattle.event_record.specs.Event.{describe}
use Rattle.event_before_66.specs.Layout.{reaction, layout_before_66}
use Rattle.events.specs.Event.{layout as event_layout, event}
use Rattle.srm_flat_peaks.specs.Flat.{peaks_from, attempt, attempts, flat_peaks}
use Rattle.peaks.specs.Peaks.{peak}
use Rattle.pairs.specs.Pairs.{peak_pairs}
use Rattle.float_ten_thousandths.specs.TenThousandths.{scaled, ten_thousandths}
use Rattle.float_bits.specs.Numbers.{largest_mass}
use Rattle.listing_lines.specs.Decimal.{digit}
use Rattle.listing_lines.specs.Internal.{decimal_by}
use Rattle.listing_lines.specs.Lines.{decimal, hexadecimal, tray_line, scan_lines}
use Rattle.tray_header.specs.Header.{header, judged, read_header}
use Rattle.tray_data.specs.Data.{scan_data, pairs}
use Rattle.tray_scan.specs.Scan.{entry_in, scan_parts, scan_if_fits}
use Rattle.tray.specs.Scan.{header_with, read_scan}
use Rattle.listing_tray.specs.Listing.{scans_text, listing}

-- version 8, flat, no bodies, one scan; index 0, events 72, data 149
abbrev words : List ℕ
words =
    8 ∷ 0 ∷ 0 ∷ 0 ∷ 1 ∷ 0 ∷ 0 ∷ 0 ∷ 0 ∷ 0 ∷ 0 ∷ 0 ∷ 0 ∷ 0 ∷ 0 ∷ 0
    ∷ 1 ∷ 0 ∷ 0 ∷ 0 ∷ 0 ∷ 0 ∷ 0 ∷ 0 ∷ 72 ∷ 0 ∷ 0 ∷ 0 ∷ 149 ∷ 0 ∷ 0 ∷ 0 ∷ []

-- offset 9 and data size 2, all else zero; an event of 77 zero bytes; the peak 500.03125, 2.0 and its flag
abbrev run : List ℕ
run =
    9 ∷ (replicate 19 0 ++ 2 ∷ (replicate 51 0 ++ (replicate 77 0
    ++ (0x00 ∷ 0x04 ∷ 0xfa ∷ 0x43 ∷ 0x00 ∷ 0x00 ∷ 0x00 ∷ 0x40 ∷ 0 ∷ []))))

-- L1, on the same tray with five peaks: m/z -0 and 0, the latter with an intensity, are not listed; the smallest f32 above 0 is, and a NaN
abbrev channels : List ℕ
channels =
    45 ∷ (replicate 19 0 ++ 6 ∷ (replicate 51 0 ++ (replicate 77 0
    ++ (0x00 ∷ 0x00 ∷ 0x00 ∷ 0x80 ∷ 0x00 ∷ 0x00 ∷ 0x00 ∷ 0x00
    ∷ 0x00 ∷ 0x04 ∷ 0xfa ∷ 0x43 ∷ 0x00 ∷ 0x00 ∷ 0x00 ∷ 0x40
    ∷ 0x00 ∷ 0x00 ∷ 0x00 ∷ 0x00 ∷ 0x00 ∷ 0x00 ∷ 0x00 ∷ 0x40
    ∷ 0x01 ∷ 0x00 ∷ 0x00 ∷ 0x00 ∷ 0x00 ∷ 0x00 ∷ 0x00 ∷ 0x40
    ∷ 0x00 ∷ 0x00 ∷ 0xc0 ∷ 0x7f ∷ 0x00 ∷ 0x00 ∷ 0x00 ∷ 0x00 ∷ replicate 5 0))))

pub worked_cases :
    (listing (words ++ run) ≡ ascii "T 8 1\nS 0 1 0\n5000313 4000000000000000\n")
    × (listing (words ++ channels) ≡ ascii "T 8 1\nS 0 3 0\n5000313 4000000000000000\n0 4000000000000000\n- 0000000000000000\n")
unfolding of_bits to_bits of_int round eq ne lt le each over parse repeat outcome size_for_version format_of layout describe reaction layout_before_66 event_layout event counted peaks_from attempt attempts flat_peaks peak peak_pairs scaled ten_thousandths largest_mass digit decimal_by decimal hexadecimal tray_line scan_lines header judged read_header scan_data pairs entry_in scan_parts lists_and_pairs_if_fit scan_if_fits header_with read_scan scans_text listing
worked_cases = (refl, refl)
