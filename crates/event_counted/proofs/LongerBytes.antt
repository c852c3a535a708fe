-- Demand 3 for a counted event. The body's size has 32 bits.
use mathlib.Core.Path.{◌≡◌}
use Prim.Native.Nat.{ℕ, ◌+◌, ◌^◌, ◌<◌}
use native.Mathlib.Omega.{arith}
use mathlib.Core.Bool.{not}
use mathlib.Core.List.{List}
use lib.Dec.{leb, lit≤}
use Rattle.refusal.specs.Number.{outcome_of}
use Rattle.parser.specs.Call.{single}
use Rattle.lists.specs.Left.{lengths, LeftLists}
use Rattle.parser.specs.LongerBytes.{OnLongerBytes, PrefixProperty, Names, Completes}
use Rattle.parser.proofs.Completion.{Bounded, bounded_more}
use Rattle.parser.specs.Parser.{Parser, bytes, little_endian, remaining}
use Rattle.parser.proofs.Calls.{NotTruncated, not_truncated_cond, prefix_property, only_part, single_completes}
use Rattle.refusal.specs.Outcome.{Outcome, ok, refused, and_then}
use Rattle.event_record.specs.Event.{event_if_fits}
use Rattle.event_record.specs.Places.{event_in, preamble_and_body}
use Rattle.event_record.specs.declared.Lists.{Lists}
use Rattle.event_record.specs.declared.EventAndNext.{EventAndNext}
use Rattle.event_record.proofs.Bodies.{body_demand}
use Rattle.event_record.proofs.LongerBytes.{event_not_truncated, reader_longer}
use Rattle.event_counted.specs.Layout.{judge_records, kept_count, lists_counted, judge_body, read_counted}
use Rattle.event_counted.proofs.Judging.{then_not_truncated, records_not_truncated}

abbrev one : ℕ → Parser (List ℕ × List ℕ)
one size = preamble_and_body (λ _. size)

counted_bounded : (size : ℕ) → size < 2 ^ 32 → Bounded (2 ^ 62) (2 ^ 61) (one size)
counted_bounded size h = bounded_more (2 ^ 62) (2 ^ 39) (2 ^ 61) (one size) (lit≤ tt) (body_demand (λ _. size) (λ _. omega arith)).bounded

abbrev answered : List ℕ → ℕ → List ℕ × List ℕ → ℕ → Outcome (EventAndNext × List (List ℕ))
answered capacities at v next = and_then (judge_body (at + 136) v.0 v.1) (λ lists. event_if_fits capacities (event_in v.0 v.1 lists) next)

pub counted_prefix : (size : ℕ) (capacities : List ℕ) (at : ℕ) → PrefixProperty (read_counted size capacities at)
unfolding read_counted
counted_prefix size capacities at = prefix_property (single 3 at (one size) (answered capacities at))

body_not_truncated : (start : ℕ) (preamble body : List ℕ) → NotTruncated (judge_body start preamble body)
unfolding judge_body
body_not_truncated start preamble body =
    let count = little_endian (bytes body 0 4) in
    not_truncated_cond (not (leb 4 (remaining body 0))) _ _ tt (then_not_truncated (judge_records start body (kept_count preamble count)) (ok (lists_counted preamble body count)) (records_not_truncated start body (kept_count preamble count)) tt)

not_truncated_by : (o : Outcome Lists) (capacities preamble body : List ℕ) (next : ℕ) → NotTruncated o → NotTruncated (and_then o (λ lists. event_if_fits capacities (event_in preamble body lists) next))
not_truncated_by (ok lists) capacities preamble body next h = event_not_truncated capacities (event_in preamble body lists) next
not_truncated_by (refused n carries) capacities preamble body next h = h

answered_not_truncated : (capacities : List ℕ) (at : ℕ) (v : List ℕ × List ℕ) (next : ℕ) → NotTruncated (answered capacities at v next)
answered_not_truncated capacities at v next = not_truncated_by (judge_body (at + 136) v.0 v.1) capacities v.0 v.1 next (body_not_truncated (at + 136) v.0 v.1)

pub counted_names : (size : ℕ) (capacities : List ℕ) (at : ℕ) → Names (λ q. q ≡ 3) (read_counted size capacities at)
unfolding read_counted
counted_names size capacities at = only_part 3 at (one size) (answered capacities at) (answered_not_truncated capacities at)

module _ (size : ℕ) (h : size < 2 ^ 32) where
  pub counted_completes : (capacities : List ℕ) (at : ℕ) → Completes 3 at (read_counted size capacities at)
  unfolding read_counted
  counted_completes capacities at = single_completes 3 at (one size) (answered capacities at) (counted_bounded size h) (answered_not_truncated capacities at)

  pub counted_longer : (at : ℕ) (xs : List (List ℕ)) → OnLongerBytes outcome_of (λ s r (ys : List (List ℕ)). LeftLists (λ c. read_counted size c at s) xs (outcome_of r) ys) (λ q. q ≡ 3) (λ _ _. at < 2 ^ 62)
  counted_longer at xs =
      let capacities = lengths xs in
      reader_longer (λ capacities. read_counted size capacities at) at xs (counted_prefix size capacities at) (counted_names size capacities at) (counted_completes capacities at)
