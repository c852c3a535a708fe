-- An event by the places of its preamble, its body and its lists, for functions that find an event and write it later.
use Rattle.std.specs.Prelude.{ℕ, ◌+◌, ◌*◌, ◌-◌, List, length}
use Rattle.refusal.specs.Outcome.{Outcome, ok}
use Rattle.lists.specs.Written.{each}
use Rattle.parser.specs.Parser.{Parser, done, raw, bytes, word_at, ◌>>=◌}
use Rattle.parser.specs.Call.{outcome, single}
use Rattle.event_reactions.specs.Reactions.{in_source}
use Rattle.event_record.specs.Event.{Event}
use Rattle.event_record.specs.declared.Lists.{Lists}
use Rattle.event_record.specs.declared.Places.{Places}

-- the event of a preamble, a body and the places of its lists in the body
unfoldable pub event_in : List ℕ → List ℕ → Lists → Event
event_in preamble body lists =
    record {
      preamble = preamble;
      reactions = in_source body lists.reactions;
      window = lists.window;
      coefficients = each (λ i. word_at body (lists.coefficients_at + i * 8) 8) lists.coefficients;
    }

-- the event at places of the run: its body is all that follows its preamble
abbrev pub event_at : List ℕ → Places → Event
event_at run p =
    let body = p.preamble + p.preamble_len in
    event_in (bytes run p.preamble p.preamble_len) (bytes run body (p.next - body)) p.lists

abbrev pub with_lists : List ℕ → List ℕ → Lists → Event × Lists
with_lists preamble body lists = (event_in preamble body lists, lists)

-- the places of an event that starts at `at` and ends at `next`
abbrev pub places_of : ℕ → Event × Lists → ℕ → Places
places_of at v next = record { preamble = at; preamble_len = length v.0.preamble; lists = v.1; next = next }

-- what finding it answers, by its layout
unfoldable pub find_by : Parser (Event × Lists) → ℕ → List ℕ → Outcome Places
find_by layout at run = outcome (single 3 at layout (λ v next. ok (places_of at v next))) run

-- a preamble of 136 bytes, and a body whose size goes by it
unfoldable pub preamble_and_body : (List ℕ → ℕ) → Parser (List ℕ × List ℕ)
preamble_and_body size = do
  preamble ← raw 136
  body ← raw (size preamble)
  done (preamble, body)
