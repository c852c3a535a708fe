-- What `BinaryReader` and bytes.rs answer: what a parser reads at a place, or refusal 1, which names no part.
use Rattle.std.specs.Prelude.{◌≡◌, ℕ, [], Result, Ok, Err}
use Rattle.refusal.specs.Outcome.{Outcome, ok, refused}
use Rattle.parser.specs.Parser.{Parser, Parsed, short, parsed, parse}
use Rattle.binary_reader.specs.declared.BinaryReader.{BinaryReader}
use Rattle.binary_reader.specs.declared.Width.{Width}
use Rattle.binary_reader.specs.declared.Width.TheVariants.{One, Two, Four, Eight}
use Rattle.binary_reader.specs.declared.RanOut.{RanOut}

abbrev pub width : Width → ℕ
width One = 1
width Two = 2
width Four = 4
width Eight = 8

-- the value, or refusal 1
abbrev pub reads : {A : Type 0} → Parsed A → Outcome A
reads short = refused 1 []
reads (parsed a next) = ok a

-- the place after what was read at `at`; where it ran out the place stays
abbrev pub place_after : {A : Type 0} → ℕ → Parsed A → ℕ
place_after at short = at
place_after at (parsed a next) = next

-- an answer in document 01's terms
abbrev pub outcome_of : {A : Type 0} → Result A RanOut → Outcome A
outcome_of (Ok a) = ok a
outcome_of (Err r) = refused 1 []

-- a call that reads by p was lent the reader r: its answer has the outcome o, and it leaves r after what was read, over the same bytes
pub record Moves {A : Type 0} (p : Parser A) (r : BinaryReader) (o : Outcome A) (r' : BinaryReader) : Type 0 where
  pub answered : o ≡ reads (parse p r.bytes.now r.place)
  pub bytes : r'.bytes ≡ r.bytes
  pub place : r'.place ≡ place_after r.place (parse p r.bytes.now r.place)
