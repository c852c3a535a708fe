-- Answers of the private functions. No public promise cites it.
use Rattle.std.specs.Prelude.{ℕ, ◌+◌, List}
use Rattle.refusal.specs.Outcome.{Outcome, on_ok}
use Rattle.parser.specs.Call.{outcome, single}
use Rattle.event_record.specs.Places.{with_lists, places_of, preamble_and_body}
use Rattle.event_record.specs.declared.Places.{Places}
use Rattle.event_counted.specs.Layout.{judge_body}

-- what `find_counted` answers
unfoldable pub find_counted : ℕ → ℕ → List ℕ → Outcome Places
find_counted size at run =
    outcome (single 3 at (preamble_and_body (λ _. size)) (λ v next.
    on_ok (λ lists. places_of at (with_lists v.0 v.1 lists) next) (judge_body (at + 136) v.0 v.1))) run
