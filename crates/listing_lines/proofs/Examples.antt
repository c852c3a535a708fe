-- Document 01's lines: antt computes each one.
use mathlib.Core.Path.{◌≡◌, refl}
use mathlib.Core.Bool.{true, false}
use mathlib.Core.List.{[], ◌∷◌}
use lib.IntN.{pos, negsuc}
use lib.Ieee.{Float, nan, inf, fin, binary64, to_bits, of_bits, of_int, le}
use Rattle.refusal.specs.declared.Part.TheVariants.{Header, Data}
use Rattle.refusal.specs.declared.Refusal.TheVariants.{Short, InvalidPrecursorMz, NoRoom}
use Rattle.text.specs.Text.{ascii}
use Rattle.float_ten_thousandths.specs.TenThousandths.{scaled, ten_thousandths}
use Rattle.listing_lines.specs.Decimal.{digit}
use Rattle.listing_lines.specs.Internal.{decimal_by}
use Rattle.listing_lines.specs.Lines.{decimal, hexadecimal, bits_text, tray_line, refusal_line, scan_lines}
use Rattle.float_bits.specs.Numbers.{largest_mass}

pub numbers : (decimal 0 ≡ ascii "0") × (decimal 9 ≡ ascii "9") × (decimal 10 ≡ ascii "10") × (decimal 18446744073709551615 ≡ ascii "18446744073709551615")
unfolding digit decimal_by decimal
numbers = (refl, refl, refl, refl)

pub tray : tray_line 8 1 ≡ ascii "T 8 1\n"
unfolding digit decimal_by decimal tray_line
tray = refl

-- 500.03125, which is 16001 / 32, and 2.0
abbrev example : Float
example = fin false 16001 (negsuc 4)

abbrev two : Float
two = fin false 1 (pos 1)

pub scan : scan_lines 0 0 (example ∷ []) (two ∷ []) ≡ ascii "S 0 1 0\n5000313 4000000000000000\n"
unfolding digit decimal_by decimal hexadecimal to_bits le of_int largest_mass scaled ten_thousandths scan_lines
scan = refl

-- masses that have no ten-thousandths, a NaN among them, and a mass without its intensity
pub dashes : scan_lines 12 7 (nan ∷ inf false ∷ largest_mass ∷ two ∷ []) (nan ∷ inf true ∷ fin true 1 (negsuc 0) ∷ []) ≡ ascii "S 12 3 7\n- 7ff8000000000000\n- fff0000000000000\n500000000 bfe0000000000000\n"
unfolding digit decimal_by decimal hexadecimal to_bits le of_int largest_mass scaled ten_thousandths scan_lines
dashes = refl

-- a NaN's pattern with another sign and other digits is the same NaN
pub one_nan : bits_text (of_bits binary64 0xfff0_0000_0000_0001) ≡ ascii "7ff8000000000000"
unfolding digit hexadecimal of_bits to_bits
one_nan = refl

-- the part goes with refusal 1 alone: a refusal 3 carries other numbers
pub refusals : (refusal_line 0 (Short Data) ≡ ascii "X 0 1 4\n") × (refusal_line 0 (Short Header) ≡ ascii "X 0 1 1\n") × (refusal_line 11 (InvalidPrecursorMz 52 5) ≡ ascii "X 11 3 0\n") × (refusal_line 2 NoRoom ≡ ascii "X 2 8 0\n")
unfolding digit decimal_by decimal refusal_line
refusals = (refl, refl, refl, refl)
