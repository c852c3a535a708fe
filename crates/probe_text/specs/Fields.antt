-- How a line is cut into its fields.
use Rattle.std.specs.Prelude.{ℕ, ◌≡◌, ◌==◌, ◌<◌, ◌≤◌, ◌/◌, ◌%◌, Bool, false, List, Option, Some, None, Ok, ◌⊎◌, [], codes, length, map, IsTrue}
use Rattle.std.specs.List.{position_or_len, before_first, after_first, list_all, list_any}
use Rattle.std.specs.Char.{is_ascii_digit, is_ascii_uppercase}
use Rattle.std.specs.Int.{from_le_bytes}
use Rattle.std.specs.Simd.{first_chunks}
use Rattle.std.specs.Str.Parse.{digits_value}
use mir.Syntax.{Width}
use Rattle.hex.specs.Hex.{decode_of}
use denote.Ref.{Bor}

abbrev pub is_space : ℕ → Bool
is_space b = b == 32

-- A field is what stands before the next space, and what stands after that is left. Without a space it is all, and nothing is left.
abbrev pub Reads : Option (Bor (List ℕ)) → List ℕ → Option (Bor (List ℕ)) → Type 0
Reads None field after = ⊥
Reads (Some line) field (Some after) =
    (position_or_len is_space line.now < length line.now)
    × (field ≡ before_first is_space line.now)
    × (after.now ≡ after_first is_space line.now)
Reads (Some line) field None = (position_or_len is_space line.now ≡ length line.now) × (field ≡ line.now)

-- what a field of bytes stands for: `-` for none, and else two digits of lower case for each
abbrev pub IsHexOf : List ℕ → List ℕ → Type 0
IsHexOf field bytes = ((field ≡ codes "-") × (bytes ≡ []))
    ⊎ ((0 < length field) × (list_any is_ascii_uppercase field ≡ false) × (decode_of field ≡ Ok bytes))

-- a number of at most 20 digits
abbrev pub IsDigits : List ℕ → Type 0
IsDigits field = IsTrue (list_all is_ascii_digit field) × (length field ≤ 20)

-- the number that the digits stand for
abbrev pub IsNumber : List ℕ → ℕ → Type 0
IsNumber field n = IsDigits field × (n ≡ digits_value 10 field)

-- a list of numbers, each by its size little-endian bytes
abbrev pub IsListOf : Width → ℕ → List ℕ → List ℕ → Type 0
IsListOf w size field numbers = (bytes : List ℕ) × IsHexOf field bytes × (length bytes % size ≡ 0)
    × (numbers ≡ map (from_le_bytes w) (first_chunks size (length bytes / size) bytes))
