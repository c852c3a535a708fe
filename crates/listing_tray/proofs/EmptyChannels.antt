-- L1: which text is document 01's. `scan_lines` is document 01's text of a scan's pairs, and `refused_line` that of a refusal.
use mathlib.Core.Path.{◌≡◌, refl, sym, ap}
use mathlib.Core.Bool.{Bool, true, false, cond}
use mathlib.Core.List.{List, [], ◌∷◌}
use Prim.Native.Nat.{ℕ}
use lib.Dec.{eqb, leb}
use lib.Ieee.{ne}
use lib.ListN.{length}
use Rattle.refusal.specs.Outcome.{Outcome, ok, refused, on_ok}
use Rattle.lists.specs.Filter.{filter}
use Rattle.lists.specs.Left.{firsts, seconds}
use Rattle.lists.proofs.Cases.{false_not_true}
use Rattle.float_bits.specs.Numbers.{zero_f}
use Rattle.scan_format.specs.Format.{format_of, flat}
use Rattle.scan_format.specs.declared.ScanDataFormat.{ScanDataFormat}
use Rattle.scan_format.specs.declared.ScanDataFormat.TheVariants.{PacketHeader, FlatV63, FlatV66}
use Rattle.pairs.specs.Pairs.{Pair}
use Rattle.listing_lines.specs.Lines.{refused_line, scan_lines}
use Rattle.tray_header.specs.declared.TrayHeader.{TrayHeader}
use Rattle.tray_scan.specs.Scan.{WrittenScan, format_in}
use Rattle.listing_tray.specs.Listing.{scan_text}

-- document 01's text of scan k, which lists all pairs, or of its refusal
abbrev pub all_pairs_text : ℕ → Outcome WrittenScan → List ℕ
all_pairs_text k (ok v) = scan_lines k v.0.event.coefficients (firsts v.2) (seconds v.2)
all_pairs_text k (refused number carries) = refused_line k number carries

-- a scan without its pairs of zero m/z
abbrev pub without_zeros : WrittenScan → WrittenScan
without_zeros v =
    let ps = filter (λ (p : Pair). ne p.0 zero_f) v.2 in
    (record { entry = v.0.entry; event = v.0.event; next = v.0.next; pairs = length ps }, v.1, ps)

all_of : (ps : List Pair) → filter (λ _. true) ps ≡ ps
all_of [] = refl
all_of (p ∷ ps) = ap (λ l. p ∷ l) (all_of ps)

-- the text of a packet scan is document 01's
pub packet_text : (format : ScanDataFormat) → flat format ≡ false → (k : ℕ) (o : Outcome WrittenScan) → scan_text format k o ≡ all_pairs_text k o
packet_text PacketHeader f k (ok v) = ap (λ ps. scan_lines k v.0.event.coefficients (firsts ps) (seconds ps)) (all_of v.2)
packet_text PacketHeader f k (refused number carries) = refl
packet_text FlatV63 f k o = false_not_true (sym f)
packet_text FlatV66 f k o = false_not_true (sym f)

-- that of a flat scan is document 01's of the scan without those pairs
pub flat_text : (format : ScanDataFormat) → flat format ≡ true → (k : ℕ) (o : Outcome WrittenScan) → scan_text format k o ≡ all_pairs_text k (on_ok without_zeros o)
flat_text PacketHeader f k o = false_not_true f
flat_text FlatV63 f k (ok v) = refl
flat_text FlatV63 f k (refused number carries) = refl
flat_text FlatV66 f k (ok v) = refl
flat_text FlatV66 f k (refused number carries) = refl

-- and the header's flat word tells which of the two it is
flat_is : (b below : Bool) → flat (cond b (cond below FlatV63 FlatV66) PacketHeader) ≡ b
flat_is true true = refl
flat_is true false = refl
flat_is false below = refl

pub flat_word : (h : TrayHeader) → flat (format_in h) ≡ eqb h.flat 1
unfolding format_of
flat_word h = flat_is (eqb h.flat 1) (leb h.version 63)
