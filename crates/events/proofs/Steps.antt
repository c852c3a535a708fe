-- One event more, and a place where nothing stands.
use mathlib.Core.Path.{◌≡◌, refl, ap, sym, ◌∙◌}
use Prim.Native.Nat.{ℕ, zero, suc, ◌≤◌}
use native.Mathlib.Omega.{arith}
use mathlib.Core.Bool.{Bool, true, false, cond}
use mathlib.Core.List.{List, [], ◌∷◌}
use lib.Dec.{leb}
use lib.ListN.{length}
use Rattle.refusal.specs.Outcome.{Outcome, ok, ran_out, and_then}
use Rattle.parser.specs.Parser.{Parser, done, Parsed, short, parsed, parse, repeat}
use Rattle.parser.specs.Call.{onward, outcome}
use Rattle.parser.proofs.Prefix.{after, parse_bind}
use Rattle.parser.proofs.Walk.{parse_repeat}
use Rattle.event_record.specs.Event.{Event}
use Rattle.event_before_66.specs.Layout.{before_66}
use Rattle.event_before_66.proofs.Answers.{parse_short_head}
use Rattle.event_from_66.specs.Layout.{from_66}
use Rattle.event_from_66.proofs.Answers.{parse_short_preamble}
use Rattle.events.specs.Event.{layout, event, event_end, event_place}
use Rattle.events.proofs.Ends.{ends, ends_cons}

module _ (one : Parser Event) (s : List ℕ) where
  end_of : ℕ → Outcome ℕ
  end_of at = onward 3 (parse one s at) (λ _ next. ok next)

  one_more : (n start : ℕ) → ends one s (parse (repeat (suc n) one) s start) ≡ and_then (ends one s (parse (repeat n one) s start)) end_of
  unfolding end_of parse repeat
  one_more zero start = ap (ends one s) (parse_repeat one 0 s start) ∙ go (parse one s start)
    where
      go : (o : Parsed Event) → ends one s (after o (λ a next. parsed (a ∷ []) next)) ≡ onward 3 o (λ _ next. ok next)
      go short = refl
      go (parsed a next) = refl
  one_more (suc n) start =
      rw (parse_repeat one (suc n) s start, parse_repeat one n s start) (go (one_more n) (parse one s start))
    where
      go : ((next : ℕ) → ends one s (parse (repeat (suc n) one) s next) ≡ and_then (ends one s (parse (repeat n one) s next)) end_of) → (o : Parsed Event)
          → ends one s (after o (λ a next. after (parse (repeat (suc n) one) s next) (λ others end. parsed (a ∷ others) end)))
          ≡ and_then (ends one s (after o (λ a next. after (parse (repeat n one) s next) (λ others end. parsed (a ∷ others) end)))) end_of
      go more short = refl
      go more (parsed a next) =
          ends_cons one s a (parse (repeat (suc n) one) s next)
          ∙ more next
          ∙ ap (λ o. and_then o end_of) (sym (ends_cons one s a (parse (repeat n one) s next)))

module _ (version primary dependent : ℕ) (s : List ℕ) where
  pub place_none : (start : ℕ) → event_place version primary dependent start 0 s ≡ ok start
  unfolding event_place outcome parse repeat
  place_none start = refl

  pub place_more : (start k : ℕ) → event_place version primary dependent start (suc k) s
      ≡ and_then (event_place version primary dependent start k s) (λ at. event_end version primary dependent at s)
  unfolding event_place event_end outcome end_of
  place_more start k = one_more (event version primary dependent) s k start

  -- after the end of the run there is no event
  pub none_after : (at : ℕ) → length s ≤ at → event_end version primary dependent at s ≡ ran_out 3
  unfolding event_end event layout outcome
  none_after at h = rw (parse_bind (cond (leb 66 version) (from_66 primary dependent) (before_66 version)) (λ v. done v.0) s at, go (leb 66 version))
    where
      go : (b : Bool) → parse (cond b (from_66 primary dependent) (before_66 version)) s at ≡ short
      go true = parse_short_preamble primary dependent s at (omega arith)
      go false = parse_short_head version s at (omega arith)
