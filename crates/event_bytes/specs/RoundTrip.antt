-- What the theorems on writing an event and reading it ask.
use Rattle.std.specs.Prelude.{◌≡◌, ℕ, ◌+◌, ◌*◌, ◌^◌, ◌<◌, List, T, get_or}
use Rattle.std.specs.Float.{binary64}
use Rattle.std.specs.Float.Ieee.{fits}
use Rattle.parser.specs.Parser.{word_at}
use Rattle.event_preamble.specs.Size.{size_for_version}
use Rattle.event_window.specs.declared.Window.{Window}
use Rattle.event_window.specs.declared.Window.TheVariants.{Absent, Ends}
use Rattle.event_record.specs.declared.ScanEvent.{ScanEvent}

-- numbers of 64 bits, as in every slice of them that code can hold
abbrev pub Words : List ℕ → Type 0
Words xs = (i : ℕ) → get_or xs i 0 < 2 ^ 64

-- the window's ends are f64
abbrev pub Doubles : Window → Type 0
Doubles Absent = Unit {0}
Doubles (Ends low high) = T (fits binary64 low) × T (fits binary64 high)

-- each field is one of its type, as in every record that code can hold
pub record Typed (e : ScanEvent) : Type 0 where
  pub window : Doubles e.window
  pub low : e.low_mz < 2 ^ 64
  pub high : e.high_mz < 2 ^ 64

-- the event at a place of the run: its reaction count, the place after its reactions, and its coefficient count
abbrev pub reaction_count : ℕ → List ℕ → ℕ → ℕ
reaction_count version run at = word_at run (at + size_for_version version) 4

abbrev pub after_reactions : ℕ → List ℕ → ℕ → ℕ
after_reactions version run at = at + size_for_version version + 4 + reaction_count version run at * 32

abbrev pub coefficient_count : ℕ → List ℕ → ℕ → ℕ
coefficient_count version run at = word_at run (after_reactions version run at + 20) 4

-- its skipped words are zero: two in each reaction, one before the window, and the last two
pub record SkippedZero (version : ℕ) (run : List ℕ) (at : ℕ) : Type 0 where
  pub precursors : (i : ℕ) → i < reaction_count version run at → word_at run (at + size_for_version version + 4 + i * 32 + 8) 8 ≡ 0
  pub energies : (i : ℕ) → i < reaction_count version run at → word_at run (at + size_for_version version + 4 + i * 32 + 24) 8 ≡ 0
  pub window : word_at run (after_reactions version run at) 4 ≡ 0
  pub last : word_at run (after_reactions version run at + 24 + coefficient_count version run at * 8) 8 ≡ 0
