-- The version's choice, and the walk over k events.
use mathlib.Core.Path.{◌≡◌, refl, sym, subst, ◌∙◌}
use Prim.Native.Nat.{ℕ, suc, ◌+◌, ◌-◌, ◌≤◌, ◌<◌}
use native.Mathlib.Nat.{sub-zero}
use native.Mathlib.Omega.{arith}
use mathlib.Core.Bool.{Bool, true, false, cond}
use mathlib.Core.List.{List, ◌∷◌}
use lib.Dec.{leb}
use borrow.Author.Tests.{le-leb, lt-leb}
use Rattle.refusal.specs.Outcome.{Outcome, ok, refused, on_ok, and_then}
use Rattle.parser.specs.Parser.{Parser, Parsed, short, parsed, parse, repeat}
use Rattle.parser.specs.Call.{onward, outcome, part_at}
use Rattle.parser.proofs.Prefix.{after}
use Rattle.parser.proofs.Walk.{parse_repeat}
use Rattle.parser.proofs.Answered.{found, ran_out_lem}
use Rattle.event_record.specs.Event.{Event, event_if_fits}
use Rattle.event_record.specs.Places.{find_by}
use Rattle.event_record.specs.declared.Places.{Places}
use Rattle.event_record.proofs.Holding.{Holds, event_and_next, found_by, call_by}
use Rattle.event_writer.proofs.Reading.{then_if_fits}
use Rattle.event_before_66.specs.Layout.{before_66}
use Rattle.event_before_66.proofs.Answers.{before_66_holds}
use Rattle.event_from_66.specs.Layout.{from_66}
use Rattle.event_from_66.proofs.Answers.{from_66_holds}
use Rattle.events.specs.Event.{layout, event, read_event, event_end, event_place}

-- the version decides the layout
module _ (version primary dependent at : ℕ) (s : List ℕ) where
  pub by_from_66 : 66 ≤ version → find_by (from_66 primary dependent) at s ≡ find_by (layout version primary dependent) at s
  unfolding layout
  by_from_66 h = rw (le-leb 66 version h)

  pub by_before_66 : version < 66 → find_by (before_66 version) at s ≡ find_by (layout version primary dependent) at s
  unfolding layout
  by_before_66 h = rw (lt-leb 66 version h)

layout_holds : (version primary dependent : ℕ) → Holds (layout version primary dependent)
unfolding layout
layout_holds version primary dependent = go (leb 66 version)
  where
    go : (b : Bool) → Holds (cond b (from_66 primary dependent) (before_66 version))
    go true = from_66_holds primary dependent
    go false = before_66_holds version

module _ (version primary dependent at : ℕ) (s : List ℕ) where
  -- the event at the places that are found is the one that is read
  pub found_event : on_ok (event_and_next s) (find_by (layout version primary dependent) at s) ≡ part_at 3 at (event version primary dependent) s
  unfolding event
  found_event = found_by (layout version primary dependent) (layout_holds version primary dependent) s at

  pub then_read : (capacities : List ℕ) → then_if_fits s (find_by (layout version primary dependent) at s) capacities ≡ read_event version primary dependent capacities at s
  unfolding read_event event
  then_read capacities = call_by (layout version primary dependent) (layout_holds version primary dependent) s at (event_if_fits capacities)

  pub then_end : {o : Outcome Places} → o ≡ find_by (layout version primary dependent) at s → and_then o (λ p. ok p.next) ≡ event_end version primary dependent at s
  unfolding event_end event
  then_end h = rw h (call_by (layout version primary dependent) (layout_holds version primary dependent) s at (λ _ next. ok next))

-- the walk: after i events it stands at `at`
module _ (p : Parser Event) (s : List ℕ) where
  abbrev pub ends : Parsed (List Event) → Outcome ℕ
  ends o = onward 3 o (λ _ next. ok next)

  pub ends_cons : (e : Event) (o : Parsed (List Event)) → ends (after o (λ others end. parsed (e ∷ others) end)) ≡ ends o
  ends_cons e short = refl
  ends_cons e (parsed others end) = refl

module _ (version primary dependent start k : ℕ) (s : List ℕ) where
  abbrev one : Parser Event
  one = event version primary dependent

  pub record Passed (i at : ℕ) : Type 0 where
    pub within : i ≤ k
    pub same : event_place version primary dependent start k s ≡ ends one s (parse (repeat (k - i) one) s at)

  pub passed_none : Passed 0 start
  unfolding event_place outcome
  passed_none = record { within = omega arith; same = rw sub-zero }

  module _ (i at : ℕ) (more : i < k) (before : Passed i at) where
    one_less : k - i ≡ suc (k - (i + 1))
    one_less = omega arith

    pub passed_more : (next : ℕ) → ok next ≡ event_end version primary dependent at s → Passed (i + 1) next
    unfolding event_end
    passed_more next e =
        let f = found 3 at one (λ (_ : Event) (n : ℕ). n) s e in
        let o = parse (repeat (k - (i + 1)) one) s f.next in
        subst (Passed (i + 1)) (sym f.made)
        (record { within = omega arith; same = before.same ∙ rw (one_less, parse_repeat one (k - (i + 1)) s at, f.there, ends_cons one s f.value o) })

    pub passed_short : {n : ℕ} {carries : List ℕ} → refused n carries ≡ event_end version primary dependent at s → refused n carries ≡ event_place version primary dependent start k s
    unfolding event_end
    passed_short e =
        let r = ran_out_lem 3 at one (λ (_ : Event) (n : ℕ). n) s e in
        rw (r.one, r.part) (sym (before.same ∙ rw (one_less, parse_repeat one (k - (i + 1)) s at, r.there)))

  pub passed_all : {i at : ℕ} → Passed i at → k ≤ i → ok at ≡ event_place version primary dependent start k s
  unfolding parse repeat
  passed_all {i} {at} before h = let none : k - i ≡ 0 = omega arith in sym (before.same ∙ rw none)
