-- The terms' sentences for readers and finders of events, from the laws of their calls.
use Prim.Native.Nat.{ℕ, ◌^◌, ◌<◌}
use mathlib.Core.Path.{◌≡◌}
use mathlib.Core.List.{List}
use Rattle.refusal.specs.Outcome.{Outcome, ok}
use Rattle.refusal.specs.Number.{outcome_of}
use Rattle.refusal.proofs.OneAnswer.{answer_one}
use Rattle.lists.specs.Left.{fits, lengths, over_all, lists_if_fit, LeftLists}
use Rattle.parser.specs.Parser.{Parser}
use Rattle.parser.specs.LongerBytes.{OnLongerBytes, PrefixProperty, Names, Completes}
use Rattle.parser.proofs.Calls.{NotTruncated, not_truncated_room}
use Rattle.parser.proofs.Completion.{Bounded}
use Rattle.parser.proofs.OnLongerBytes.{one_part, left_longer}
use Rattle.parser.proofs.Records.{OnePart, single_part}
use Rattle.event_record.specs.Event.{Event, event_lists, event_if_fits}
use Rattle.event_record.specs.declared.EventAndNext.{EventAndNext}
use Rattle.event_record.specs.Places.{places_of, find_by}
use Rattle.event_record.specs.declared.Lists.{Lists}

pub event_not_truncated : (capacities : List ℕ) (e : Event) (next : ℕ) → NotTruncated (event_if_fits capacities e next)
unfolding event_if_fits lists_if_fit
event_not_truncated capacities e next = not_truncated_room (fits (lengths (event_lists e)) capacities) _

pub reader_longer : (call : List ℕ → List ℕ → Outcome (EventAndNext × List (List ℕ))) (at : ℕ) (xs : List (List ℕ)) → PrefixProperty (call (lengths xs)) → Names (λ q. q ≡ 3) (call (lengths xs)) → Completes 3 at (call (lengths xs))
    → OnLongerBytes outcome_of (λ s r (ys : List (List ℕ)). LeftLists (λ c. call c s) xs (outcome_of r) ys) (λ q. q ≡ 3) (λ _ _. at < 2 ^ 62)
reader_longer call at xs prefix names completes =
    left_longer outcome_of answer_one (call (lengths xs)) prefix (λ q. q ≡ 3) (λ _ _. at < 2 ^ 62) names (one_part 3 at (call (lengths xs)) names completes)
    (λ (v : EventAndNext × List (List ℕ)). v.0) (λ (v : EventAndNext × List (List ℕ)). over_all v.1) xs

pub finder_part : (layout : Parser (Event × Lists)) (at : ℕ) → Bounded (2 ^ 62) (2 ^ 61) layout → OnePart outcome_of 3 at (find_by layout at)
unfolding find_by
finder_part layout at bounded = single_part 3 at layout (λ v next. ok (places_of at v next)) outcome_of answer_one bounded (λ _ _. tt)
