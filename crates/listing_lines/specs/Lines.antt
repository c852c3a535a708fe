-- The lines of the listing program, as bytes (document 01, "Tray").
use Rattle.std.specs.Prelude.{ℕ, zero, suc, ◌/◌, ◌%◌, min, cond, List, [], ◌∷◌, ◌++◌, eqb, Float, length, get_or}
use Rattle.std.specs.Float.{binary64}
use Rattle.std.specs.Float.Ieee.{to_bits}
use Rattle.refusal.specs.Outcome.{Outcome, ok, refused}
use Rattle.refusal.specs.Number.{number as number_of, carried}
use Rattle.refusal.specs.declared.Refusal.{Refusal}
use Rattle.text.specs.Text.{ascii}
use Rattle.listing_lines.specs.Decimal.{digit}
use Rattle.listing_lines.specs.Internal.{in_decimal}
use Rattle.float_ten_thousandths.specs.TenThousandths.{ten_thousandths}

-- n in decimal: the one text that `Decimal` has of n
unfoldable pub decimal : ℕ → List ℕ
decimal n = (in_decimal n).0

-- the last k hexadecimal digits of n
unfoldable pub hexadecimal : ℕ → ℕ → List ℕ
hexadecimal zero n = []
hexadecimal (suc k) n = hexadecimal k (n / 16) ++ (digit (n % 16) ∷ [])

-- fields one space apart, and a line feed
abbrev pub line : List (List ℕ) → List ℕ
line [] = ascii "\n"
line (field ∷ []) = field ++ ascii "\n"
line (field ∷ next ∷ others) = field ++ (ascii " " ++ line (next ∷ others))

-- an m/z in ten-thousandths, or `-` where it has none
abbrev pub number_or_dash : Outcome ℕ → List ℕ
number_or_dash (ok n) = decimal n
number_or_dash (refused number carries) = ascii "-"

abbrev pub mass_text : Float → List ℕ
mass_text mz = number_or_dash (ten_thousandths mz)

-- an intensity's bits in 16 hexadecimal digits. `Float` has one NaN, and its bits are 7ff8000000000000
abbrev pub bits_text : Float → List ℕ
bits_text intensity = hexadecimal 16 (to_bits binary64 intensity)

-- `T version count`
unfoldable pub tray_line : ℕ → ℕ → List ℕ
tray_line version scans = line (ascii "T" ∷ decimal version ∷ decimal scans ∷ [])

-- the part that a refusal 1 carries, and 0 of others
abbrev pub part_in : ℕ → List ℕ → ℕ
part_in refusal carries = cond (eqb refusal 1) (get_or carries 0 0) 0

-- `X number refusal part`, by the refusal's number and what it carries
abbrev pub refused_line : ℕ → ℕ → List ℕ → List ℕ
refused_line number refusal carries = line (ascii "X" ∷ decimal number ∷ decimal refusal ∷ decimal (part_in refusal carries) ∷ [])

unfoldable pub refusal_line : ℕ → Refusal → List ℕ
refusal_line number refusal = refused_line number (number_of refusal) (carried refusal)

-- a line for each pair, as far as both lists go
abbrev pub pair_lines : List Float → List Float → List ℕ
pair_lines [] intensity = []
pair_lines (m ∷ mz) [] = []
pair_lines (m ∷ mz) (i ∷ intensity) = line (mass_text m ∷ bits_text i ∷ []) ++ pair_lines mz intensity

-- `S number pairs coefficients`, and the pairs' lines
unfoldable pub scan_lines : ℕ → ℕ → List Float → List Float → List ℕ
scan_lines number coefficients mz intensity =
    line (ascii "S" ∷ decimal number ∷ decimal (min (length mz) (length intensity)) ∷ decimal coefficients ∷ [])
    ++ pair_lines mz intensity
