-- What an event of any version holds, and what is written of it.
use Rattle.std.specs.Prelude.{ℕ, List, [], ◌∷◌, length}
use Rattle.refusal.specs.Outcome.{Outcome}
use Rattle.lists.specs.Left.{firsts, seconds, lists_if_fit}
use Rattle.event_window.specs.declared.FoundWindow.{FoundWindow}
use Rattle.event_reactions.specs.Reactions.{Reaction}
use Rattle.event_preamble.specs.Settings.{settings}
use Rattle.event_record.specs.Activation.{event_activation}
use Rattle.event_record.specs.declared.ScanEvent.{ScanEvent}
use Rattle.event_record.specs.declared.EventAndNext.{EventAndNext}

-- an event as it was read
pub record Event : Type 0 where
  pub preamble : List ℕ
  pub reactions : List Reaction
  pub window : FoundWindow
  pub coefficients : List ℕ

-- its record
unfoldable pub describe : Event → ScanEvent
describe e =
    record {
      preamble_len = length e.preamble;
      reactions = length e.reactions;
      coefficients = length e.coefficients;
      window = e.window.window;
      low_mz = e.window.low;
      high_mz = e.window.high;
      preamble = settings e.preamble;
      activation = event_activation e.preamble (firsts e.reactions);
    }

-- the answer: the record, and the place after the event
abbrev pub answer_of : Event → ℕ → EventAndNext
answer_of e next = record { event = describe e; next = next }

-- what the lent slices take: the preamble, the precursors, the energies and the coefficients
abbrev pub event_lists : Event → List (List ℕ)
event_lists e = e.preamble ∷ firsts e.reactions ∷ seconds e.reactions ∷ e.coefficients ∷ []

unfoldable pub event_if_fits : List ℕ → Event → ℕ → Outcome (EventAndNext × List (List ℕ))
event_if_fits capacities e next = lists_if_fit capacities (answer_of e next) (event_lists e)
