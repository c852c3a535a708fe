-- What finding a counted event answers, by the tests that decide it, and what is read of it.
use Rattle.std.specs.Prelude.{Ok}
use mathlib.Core.Path.{◌≡◌, refl}
use mathlib.Core.Logic.{⊎_elim}
use Prim.Native.Nat.{ℕ, ◌+◌, ◌≤◌, ◌<◌}
use mathlib.Core.List.{List, []}
use lib.ListN.{length}
use borrow.Author.Tests.{le-leb, lt-leb}
use Rattle.refusal.specs.Outcome.{Outcome, ok, refused, ran_out, on_ok, and_then}
use Rattle.refusal.specs.Number.{outcome_of}
use Rattle.lists.proofs.Cases.{le_or_lt}
use Rattle.parser.specs.Parser.{bytes, word_at, remaining}
use Rattle.event_record.specs.Event.{event_if_fits}
use Rattle.event_record.specs.Places.{event_in, with_lists, places_of}
use Rattle.event_record.specs.declared.Lists.{Lists}
use Rattle.event_record.specs.declared.Places.{Places}
use Rattle.event_record.specs.declared.EventAndNext.{EventAndNext}
use Rattle.event_record.proofs.Holding.{there}
use Rattle.event_record.proofs.Bodies.{no_preamble, no_body, both_there, again}
use Rattle.event_writer.proofs.Reading.{then_if_fits}
use Rattle.event_counted.specs.Layout.{judge_records, kept_count, lists_counted, judge_body, read_counted}
use Rattle.event_counted.specs.Internal.{find_counted}

module _ (size : ℕ) (s : List ℕ) (at : ℕ) where
  abbrev finds : List ℕ × List ℕ → ℕ → Outcome Places
  finds v next = on_ok (λ lists. places_of at (with_lists v.0 v.1 lists) next) (judge_body (at + 136) v.0 v.1)

  abbrev reads : List ℕ → List ℕ × List ℕ → ℕ → Outcome (EventAndNext × List (List ℕ))
  reads capacities v next = and_then (judge_body (at + 136) v.0 v.1) (λ lists. event_if_fits capacities (event_in v.0 v.1 lists) next)

  pub short_preamble : remaining s at < 136 → ran_out 3 ≡ find_counted size at s
  unfolding find_counted
  short_preamble t = no_preamble (λ _. size) finds s at t

  module _ (t : 136 ≤ remaining s at) where
    pub short_body : remaining s (at + 136) < size → ran_out 3 ≡ find_counted size at s
    unfolding find_counted
    short_body u = no_body (λ _. size) finds s at t refl refl u

    module _ (u : size ≤ remaining s (at + 136)) {preamble body : List ℕ} (hp : preamble ≡ bytes s at 136) (hb : body ≡ bytes s (at + 136) size) where
      whole : finds (preamble, body) (at + 136 + size) ≡ find_counted size at s
      unfolding find_counted
      whole = both_there (λ _. size) finds s at t hp refl u hb

      pub wrong : {n : ℕ} {carries : List ℕ} → refused n carries ≡ judge_body (at + 136) preamble body → refused n carries ≡ find_counted size at s
      wrong h = rw (← whole, ← h)

      pub found : {lists : Lists} → ok lists ≡ judge_body (at + 136) preamble body
          → outcome_of (Ok (record { preamble = at; preamble_len = 136; lists = lists; next = at + 136 + size })) ≡ find_counted size at s
      unfolding event_in
      found h =
          let len : length preamble ≡ 136 = rw hp (there s at 136 t) in
          rw (← whole, ← h, len)

  -- the reader is what was found, and then the room
  pub counted_then : (capacities : List ℕ) → then_if_fits s (find_counted size at s) capacities ≡ read_counted size capacities at s
  unfolding find_counted read_counted
  counted_then capacities =
      ⊎_elim
      (λ (t : 136 ≤ remaining s at).
      ⊎_elim
      (λ (u : size ≤ remaining s (at + 136)).
      rw (← both_there (λ _. size) finds s at t refl refl u refl, ← both_there (λ _. size) (reads capacities) s at t refl refl u refl)
      (go t (judge_body (at + 136) (bytes s at 136) (bytes s (at + 136) size))))
      (λ (u : remaining s (at + 136) < size). rw (← no_body (λ _. size) finds s at t refl refl u, ← no_body (λ _. size) (reads capacities) s at t refl refl u))
      (le_or_lt size (remaining s (at + 136))))
      (λ (t : remaining s at < 136). rw (← no_preamble (λ _. size) finds s at t, ← no_preamble (λ _. size) (reads capacities) s at t))
      (le_or_lt 136 (remaining s at))
    where
      go : 136 ≤ remaining s at → (o : Outcome Lists)
          → then_if_fits s (on_ok (λ lists. places_of at (with_lists (bytes s at 136) (bytes s (at + 136) size) lists) (at + 136 + size)) o) capacities
          ≡ and_then o (λ lists. event_if_fits capacities (event_in (bytes s at 136) (bytes s (at + 136) size) lists) (at + 136 + size))
      go t (ok lists) = rw (again s at size lists t)
      go t (refused n carries) = refl

module _ (start : ℕ) (preamble body : List ℕ) where
  pub no_count : remaining body 0 < 4 → refused 4 [] ≡ judge_body start preamble body
  unfolding judge_body
  no_count t = rw (lt-leb _ _ t)

  by_records : 4 ≤ remaining body 0 → (count : ℕ) → count ≡ word_at body 0 4
      → and_then (judge_records start body (kept_count preamble count)) (λ _. ok (lists_counted preamble body count)) ≡ judge_body start preamble body
  unfolding judge_body
  by_records t count e = rw (le-leb _ _ t, ← e)

  module _ (t : 4 ≤ remaining body 0) (count : ℕ) (e : count ≡ word_at body 0 4) {n : ℕ} (k : n ≡ kept_count preamble count) where
    pub wrong_record : {number : ℕ} {carries : List ℕ} → refused number carries ≡ judge_records start body n
        → refused number carries ≡ judge_body start preamble body
    wrong_record h = rw (← k, ← h) at (by_records t count e)

    pub sound_records : ok tt ≡ judge_records start body n → ok (lists_counted preamble body count) ≡ judge_body start preamble body
    sound_records h = rw (← k, ← h) at (by_records t count e)
