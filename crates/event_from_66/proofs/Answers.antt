-- What finding an event from version 66 on answers, by the tests that decide it, and that it is the event which is read.
use Rattle.std.specs.Prelude.{Ok}
use mathlib.Core.Path.{◌≡◌, refl, sym, ◌∙◌}
use Prim.Native.Nat.{ℕ, ◌+◌, ◌≤◌, ◌<◌}
use mathlib.Core.Bool.{Bool, ◌&&◌, not, cond}
use mathlib.Core.List.{List}
use lib.Dec.{eqb}
use lib.ListN.{length}
use borrow.Author.Tests.{lt-leb}
use Rattle.refusal.specs.Outcome.{Outcome, ok, ran_out}
use Rattle.refusal.specs.Number.{outcome_of}
use Rattle.parser.specs.Parser.{short, parse, bytes, remaining}
use Rattle.parser.specs.Call.{outcome, single}
use Rattle.parser.proofs.Answered.{made_part}
use Rattle.event_preamble.specs.Settings.{is_primary}
use Rattle.event_record.specs.Event.{Event}
use Rattle.event_record.specs.Places.{event_in, with_lists, places_of, find_by, preamble_and_body}
use Rattle.event_record.specs.declared.Lists.{Lists}
use Rattle.event_record.specs.declared.Places.{Places}
use Rattle.event_record.proofs.Holding.{Holds, there}
use Rattle.event_record.proofs.Bodies.{no_preamble, no_body, both_there, body_holds}
use Rattle.event_from_66.specs.Layout.{body_size, is_tribrid, lists_from_66, from_66}

module _ (primary dependent : ℕ) where
  pub from_66_holds : Holds (from_66 primary dependent)
  unfolding from_66
  from_66_holds = body_holds (body_size primary dependent) (λ preamble body. lists_from_66 preamble body (is_tribrid primary dependent preamble))

  module _ (s : List ℕ) (at : ℕ) where
    pub parse_short_preamble : remaining s at < 136 → parse (from_66 primary dependent) s at ≡ short
    unfolding from_66 preamble_and_body parse
    parse_short_preamble t = rw (lt-leb _ _ t)

    abbrev described : List ℕ × List ℕ → Event × Lists
    described v = with_lists v.0 v.1 (lists_from_66 v.0 v.1 (is_tribrid primary dependent v.0))

    abbrev answers : List ℕ × List ℕ → ℕ → Outcome Places
    answers v next = ok (places_of at (described v) next)

    by_parts : outcome (single 3 at (preamble_and_body (body_size primary dependent)) answers) s ≡ find_by (from_66 primary dependent) at s
    unfolding find_by from_66
    by_parts = sym (made_part 3 at (preamble_and_body (body_size primary dependent)) described (λ v next. ok (places_of at v next)) answers (λ _ _. refl) s)

    pub short_preamble : remaining s at < 136 → ran_out 3 ≡ find_by (from_66 primary dependent) at s
    short_preamble t = no_preamble (body_size primary dependent) answers s at t ∙ by_parts

    module _ (t : 136 ≤ remaining s at) {preamble : List ℕ} {size : ℕ} (hp : preamble ≡ bytes s at 136) {is_p : Bool} (hq : is_p ≡ is_primary preamble) (hs : size ≡ cond is_p primary dependent) where
      size_is : size ≡ body_size primary dependent preamble
      size_is = rw (← hq) hs

      pub short_body : remaining s (at + 136) < size → ran_out 3 ≡ find_by (from_66 primary dependent) at s
      short_body u = no_body (body_size primary dependent) answers s at t hp size_is u ∙ by_parts

      -- the places that are answered, from what the code has in hand
      pub found : {body : List ℕ} {is_t : Bool} {lists : Lists} → body ≡ bytes s (at + 136) size → is_t ≡ (not (eqb primary dependent) && not is_p) → size ≤ remaining s (at + 136)
          → lists ≡ lists_from_66 preamble body is_t
          → outcome_of (Ok (record { preamble = at; preamble_len = 136; lists = lists; next = at + 136 + size })) ≡ find_by (from_66 primary dependent) at s
      unfolding event_in
      found hb ht u e =
          let len : length preamble ≡ 136 = rw hp (there s at 136 t) in
          rw (len, ← hq, ← ht, ← e) at (both_there (body_size primary dependent) answers s at t hp size_is u hb) ∙ by_parts
