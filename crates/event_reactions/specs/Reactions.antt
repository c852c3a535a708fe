-- The reactions in the body of an event: where they stand, and which are kept (`read_v66` of scan_event.rs).
use Rattle.std.specs.Prelude.{ℕ, ◌+◌, ◌*◌, ◌-◌, ◌/◌, min, max, Bool, true, false, ◌&&◌, cond, List, [], ◌∷◌, leb, length}
use Rattle.std.specs.Float.{binary64}
use Rattle.std.specs.Float.Ieee.{of_bits, lt, le}
use Rattle.std.specs.Float.Ieee.Scale.{finite}
use Rattle.float_bits.specs.Numbers.{largest_mass, zero_f}
use Rattle.lists.specs.Written.{each}
use Rattle.lists.specs.Filter.{filter}
use Rattle.parser.specs.Parser.{word_at}
use Rattle.event_reactions.specs.declared.Source.{Source}
use Rattle.event_reactions.specs.declared.Source.TheVariants.{Every, Sought}

-- the bits of its precursor and of its energy
abbrev pub Reaction : Type 0
Reaction = ℕ × ℕ

-- the reaction whose record stands at an offset: precursor at 0, energy at 16
abbrev pub reaction_at : List ℕ → ℕ → Reaction
reaction_at body at = (word_at body at 8, word_at body (at + 16) 8)

-- a precursor that is kept: finite and not negative. A negative zero is kept
abbrev pub acceptable : ℕ → Bool
acceptable bits = finite (of_bits binary64 bits) && le zero_f (of_bits binary64 bits)

-- of the first n records of 32 bytes from `from` on, those that are kept
unfoldable pub kept : List ℕ → ℕ → ℕ → List Reaction
kept body from n = filter (λ (r : Reaction). acceptable r.0) (each (λ i. reaction_at body (from + i * 32)) n)

-- the largest count that is believed: 32 bytes are to follow the records, yet a count of 1 is always believed
abbrev pub largest : List ℕ → ℕ → ℕ
largest body from = max ((length body - (from + 32)) / 32) 1

-- how many records are read: none if the stored count is zero or above the largest, and none that passes the body
unfoldable pub record_count : List ℕ → ℕ → ℕ → ℕ
record_count body count_at from =
    cond (leb (word_at body count_at 4) (largest body from)) (min (word_at body count_at 4) ((length body - from) / 32)) 0

-- a precursor without a count word before it: between 0 and 50,000, both excluded
abbrev pub plausible_precursor : ℕ → Bool
plausible_precursor bits = finite (of_bits binary64 bits) && lt zero_f (of_bits binary64 bits) && lt (of_bits binary64 bits) largest_mass

-- whether the record at 4 that has no count word is taken, and that record
abbrev pub has_uncounted : List ℕ → Bool
has_uncounted body = leb 36 (length body) && plausible_precursor (word_at body 4 8)

unfoldable pub uncounted : List ℕ → List Reaction
uncounted body = cond (has_uncounted body) (reaction_at body 4 ∷ []) []

abbrev pub or_if_empty : List Reaction → List Reaction → List Reaction
or_if_empty [] rest = rest
or_if_empty (r ∷ rs) rest = r ∷ rs

-- a tribrid's dependent events have the count at 0 and the records from 4 on; others have them at 4 and 8, and where none
-- was found the uncounted record
unfoldable pub reactions_in : Bool → List ℕ → List Reaction
reactions_in true body = cond (leb 8 (length body)) (kept body 4 (record_count body 0 4)) []
reactions_in false body = cond (leb 8 (length body)) (or_if_empty (kept body 8 (record_count body 4 8)) (uncounted body)) []

-- the reactions of a body, by where they stand
unfoldable pub in_source : List ℕ → Source → List Reaction
in_source body (Every from stride count) = each (λ i. reaction_at body (from + i * stride)) count
in_source body (Sought tribrid) = reactions_in tribrid body
