-- A scan event of version 66 whose body starts with its reaction count (`read_counted_v66` of scan_event.rs).
use Rattle.std.specs.Prelude.{ℕ, zero, suc, ◌+◌, ◌*◌, not, cond, List, [], ◌∷◌, leb}
use Rattle.refusal.specs.Outcome.{Outcome, ok, refused, and_then}
use Rattle.parser.specs.Parser.{remaining, word_at}
use Rattle.parser.specs.Call.{outcome, single}
use Rattle.event_preamble.specs.Settings.{is_primary}
use Rattle.event_window.specs.Window.{first_window}
use Rattle.event_coefficients.specs.Coefficients.{coefficient_count}
use Rattle.event_reactions.specs.Reactions.{acceptable}
use Rattle.event_reactions.specs.declared.Source.TheVariants.{Every}
use Rattle.event_record.specs.Event.{event_if_fits}
use Rattle.event_record.specs.Places.{event_in, preamble_and_body}
use Rattle.event_record.specs.declared.Lists.{Lists}
use Rattle.event_record.specs.declared.EventAndNext.{EventAndNext}

-- where record i of 56 bytes stands in the body: its precursor at 0, its energy at 16
abbrev pub record_at : ℕ → ℕ
record_at i = 4 + i * 56

-- what is wrong with record i of a body that starts at `start` of the run: 4 at the precursor, 3, 4 at the energy
abbrev pub judge_record : ℕ → List ℕ → ℕ → Outcome (Unit {0})
judge_record start body i =
    cond (not (leb 8 (remaining body (record_at i)))) (refused 4 [])
    (cond (not (acceptable (word_at body (record_at i) 8))) (refused 3 ((start + record_at i) ∷ word_at body (record_at i) 8 ∷ []))
    (cond (not (leb 8 (remaining body (record_at i + 16)))) (refused 4 []) (ok tt)))

-- the first n records, one after the other
unfoldable pub judge_records : ℕ → List ℕ → ℕ → Outcome (Unit {0})
judge_records start body zero = ok tt
judge_records start body (suc n) = and_then (judge_records start body n) (λ _. judge_record start body n)

-- a primary event's records are neither judged nor kept
abbrev pub kept_count : List ℕ → ℕ → ℕ
kept_count preamble count = cond (is_primary preamble) 0 count

unfoldable pub lists_counted : List ℕ → List ℕ → ℕ → Lists
lists_counted preamble body count =
    let offset = count * 56 + 8 in
    record {
      reactions = Every 4 56 (kept_count preamble count);
      coefficients_at = offset + 20;
      coefficients = coefficient_count body (offset + 16);
      window = first_window body (offset ∷ []);
    }

-- the lists of a body that starts at `start`, or what is wrong with it
unfoldable pub judge_body : ℕ → List ℕ → List ℕ → Outcome Lists
judge_body start preamble body =
    let count = word_at body 0 4 in
    cond (not (leb 4 (remaining body 0))) (refused 4 [])
    (and_then (judge_records start body (kept_count preamble count)) (λ _. ok (lists_counted preamble body count)))

-- what `read_counted_v66` answers
unfoldable pub read_counted : ℕ → List ℕ → ℕ → List ℕ → Outcome (EventAndNext × List (List ℕ))
read_counted size capacities at run =
    outcome (single 3 at (preamble_and_body (λ _. size)) (λ v next.
    and_then (judge_body (at + 136) v.0 v.1) (λ lists. event_if_fits capacities (event_in v.0 v.1 lists) next))) run
