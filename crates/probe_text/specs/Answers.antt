-- How the parts of an answer are written (docs/REQUESTS.md, "Form").
use Rattle.std.specs.Prelude.{ℕ, ◌==◌, ◌-◌, ◌^◌, false, if◌then◌else◌, List, [], ◌∷◌, ◌++◌, codes, decimal, flat_map, Result, Ok, Err}
use Rattle.std.specs.Fmt.{digits, format_spec, padded_integral}
use Rattle.refusal.specs.declared.Refusal.{Refusal}
use Rattle.refusal.specs.declared.Refusal.TheVariants.{Short, UnrecognizedScanRecord, InvalidPrecursorMz, BodyTooShort, FlatWord, TooManyScans, NoSuchScan, NoRoom, MassOutOfRange, NotHeld}
use Rattle.refusal.specs.Number.{number, part_number}

-- a number after a space
abbrev pub field : ℕ → List ℕ
field n = 32 ∷ decimal n

-- n in hexadecimal digits of lower case, with zeros before it up to this width: what `{n:0width$x}` writes
abbrev pub hex_digits : ℕ → ℕ → List ℕ
hex_digits width n = padded_integral (format_spec 32 0 4 width (2 ^ 64 - 1)) false [] (digits 16 false n)

-- bits after a space
abbrev pub bits_field : ℕ → ℕ → List ℕ
bits_field width n = 32 ∷ hex_digits width n

-- the elements of a slice, each after a space
abbrev pub elements : {A : Type 0} → ℕ → (A → ℕ) → List A → List ℕ
elements width bits xs = flat_map (λ x. 32 ∷ hex_digits width (bits x)) xs

-- bytes, with no space between them
abbrev pub hex_bytes : List ℕ → List ℕ
hex_bytes run = flat_map (hex_digits 2) run

-- a field of bytes: `-` stands for none
abbrev pub bytes_field : List ℕ → List ℕ
bytes_field [] = codes " -"
bytes_field (b ∷ run) = 32 ∷ hex_bytes (b ∷ run)

abbrev pub ok_number : ℕ → List ℕ
ok_number n = codes "ok" ++ field n

-- what a refusal carries: the part that ran out, or a precursor's place and bits
abbrev pub carried : Refusal → List ℕ
carried (Short part) = field (part_number part)
carried (InvalidPrecursorMz place bits) = field place ++ (32 ∷ hex_digits 16 bits)
carried UnrecognizedScanRecord = []
carried BodyTooShort = []
carried FlatWord = []
carried TooManyScans = []
carried NoSuchScan = []
carried NoRoom = []
carried MassOutOfRange = []
carried NotHeld = []

abbrev pub refused : Refusal → List ℕ
refused refusal = codes "refused" ++ field (number refusal) ++ carried refusal

abbrev pub count : Result ℕ Refusal → List ℕ
count (Ok n) = ok_number n
count (Err refusal) = refused refusal

-- the empty name stands for none
abbrev pub name : Result ℕ Refusal → List ℕ
name (Ok n) = if n == 0 then codes "none" else ok_number n
name (Err refusal) = refused refusal
