-- L3: an event that was read is held, and writes back to its own bytes.
use Rattle.std.specs.Prelude.{Result}
use Rattle.std.specs.List.{zip}
use mathlib.Core.Path.{◌≡◌, refl, ap, ◌∙◌}
use Prim.Native.Nat.{ℕ, zero, suc, ◌+◌, ◌*◌, ◌-◌, ◌^◌, ◌≤◌, ◌<◌}
use native.Mathlib.Nat.{zero-mul, suc-mul, add-zero}
use native.Mathlib.Omega.{arith}
use mathlib.Core.Bool.{true}
use mathlib.Core.List.{List, [], ◌∷◌}
use lib.Ieee.{Float, binary64, of_bits, to_bits}
use lib.ListN.{length, take, drop, length-append, length-map, length-take, length-drop}
use lib.Seq.{take-append_seam}
use borrow.Author.Tests.{le-leb, lt-leb, lt-ltb, eq-eqb}
use Rattle.refusal.specs.Outcome.{ok}
use Rattle.refusal.specs.Number.{outcome_of}
use Rattle.refusal.specs.declared.Refusal.{Refusal}
use Rattle.lists.specs.Written.{over}
use Rattle.lists.specs.Left.{fits, if_fits, lengths, lists_if_fit, LeftLists, over_all, firsts, seconds}
use Rattle.lists.proofs.Left.{wrote, room_true}
use Rattle.parser.specs.Parser.{Parser, parsed, parse, done, bytes, repeat}
use Rattle.parser.specs.Parser as parser
use Rattle.parser.specs.Internal.{Sized}
use Rattle.parser.specs.LongerBytes.{Bytes}
use Rattle.parser.proofs.Prefix.{bind_parsed}
use Rattle.parser.proofs.Fixed.{sized_word, sized_repeat}
use Rattle.parser.proofs.Records.{sized_read}
use Rattle.parser.proofs.Answered.{part_ok}
use Rattle.layout.specs.Layout.{word, reads, written}
use Rattle.layout.proofs.Conditions.{Holds, Keeps, AtEach, SkippedZero as Skipped}
use Rattle.layout.proofs.WritesBack.{Stands, writes_back}
use Rattle.event_window.specs.declared.FoundWindow.{FoundWindow}
use Rattle.event_preamble.specs.Size.{size_for_version}
use Rattle.event_preamble.specs.Settings.{settings}
use Rattle.event_reactions.specs.Reactions.{Reaction}
use Rattle.event_record.specs.Activation.{event_activation}
use Rattle.event_record.specs.Event.{Event, describe, answer_of, event_lists, event_if_fits}
use Rattle.event_record.specs.declared.EventAndNext.{EventAndNext}
use Rattle.event_record.specs.declared.Lists.{Lists}
use Rattle.event_before_66.specs.Layout.{reaction, layout_before_66, before_66}
use Rattle.event_before_66.proofs.Stages.{reaction_sized}
use Rattle.events.specs.Event.{layout, event, read_event}
use Rattle.event_bytes.specs.Codes.{same_codes, same_activation}
use Rattle.event_bytes.specs.Write.{same_float, window_given, held_before_66, window_in, as_event, write_if_fits, write_before_66}
use Rattle.event_bytes.specs.RoundTrip.{reaction_count, after_reactions, coefficient_count, SkippedZero}
use Rattle.event_bytes.proofs.Codes.{codes_themselves, activation_itself}
use Rattle.event_bytes.proofs.RoundTrip.{Placed, counted_there}

-- ---- what the law on layouts asks
-- P holds at each of n places of records of one size
at_each : {A : Type 0} (size : ℕ) (p : Parser A) → Sized size p → (P : ℕ → Type 0) (s : List ℕ) (n at : ℕ) → ((i : ℕ) → i < n → P (at + i * size)) → AtEach n P p s at
at_each size p sized P s zero at h = tt
at_each size p sized P s (suc n) at h =
    let z : at + 0 * size ≡ at = rw (zero-mul, add-zero) in (
      rw z at (h 0 (omega arith)),
      λ a next e.
          let f : next ≡ at + size = (sized_read size p sized s at e).2 in
          rw f (at_each size p sized P s n (at + size) (λ i l. let g : at + suc i * size ≡ at + size + i * size = omega (arith, suc-mul i size) in rw g at (h (suc i) (omega arith)))),
    )

-- the skipped bytes of the layout are those words
skipped : (version : ℕ) (s : List ℕ) (at : ℕ) → SkippedZero version s at → Skipped (layout_before_66 version) s at
unfolding layout_before_66 reaction
skipped version s at z = (
  at_each 32 (reads reaction) reaction_sized (λ place. Skipped reaction s place) s (reaction_count version s at) (at + size_for_version version + 4)
      (λ i l.
      let e : at + size_for_version version + 4 + i * 32 + 8 + 8 + 8 ≡ at + size_for_version version + 4 + i * 32 + 24 = omega arith in
      (z.precursors i l, (rw e (z.energies i l), tt))),
  λ rs next h.
      let n = reaction_count version s at in
      let f : next ≡ after_reactions version s at = (sized_read (n * 32) (repeat n (reads reaction)) (sized_repeat 32 (reads reaction) reaction_sized n) s (at + size_for_version version + 4) h).2 in
      let m = coefficient_count version s at in
      let from = after_reactions version s at in
      let k : from + 4 + 8 + 8 ≡ from + 20 = omega arith in
      rw (f, k) (
        z.window,
        (
          at_each 8 (parser.word 8) (sized_word 8) (λ place. Skipped (word 8 (λ (c : ℕ). c)) s place) s m (from + 20 + 4) (λ _ _. tt),
          λ cs end g.
              let e : end ≡ from + 24 + m * 8 = (sized_read (m * 8) (repeat m (parser.word 8)) (sized_repeat 8 (parser.word 8) (sized_word 8) m) s (from + 20 + 4) g).2 ∙ omega arith in
              (rw e z.last, tt),
        ),
      ),
)

keeps : (version : ℕ) → Keeps (λ (v : Event × Lists). v.0) (layout_before_66 version) (λ v. Placed v.0)
unfolding layout_before_66 reaction
keeps version =
    λ preamble _ n. (
      λ _ _. ((tt, refl), refl),
      λ reactions many low high m. (λ _. (tt, refl), λ cs few. ((((((((rw many, refl), many), refl), refl), refl), few), rw (← few) (counted_there cs)), refl)),
    )

-- ---- what was read stands at the fronts of the slices
zip-back : (rs : List Reaction) → zip (firsts rs) (seconds rs) ≡ rs
zip-back [] = refl
zip-back (r ∷ rs) = rw (zip-back rs)

front : (vs xs ys : List ℕ) (n : ℕ) → ys ≡ over vs xs → length vs ≡ n → (take n ys ≡ vs) × (n ≤ length ys)
unfolding over
front vs xs ys n e size = (
  rw (e, ← size) (take-append_seam vs (drop (length vs) xs)),
  rw e (rw (length-append vs (drop (length vs) xs)) (omega (arith, size))),
)

float_itself : (x : Float) → same_float x x ≡ true
float_itself x = eq-eqb (to_bits binary64 x) (to_bits binary64 x) refl

module _ (version : ℕ) (low : version < 66) (ev : Event) (placed : Placed ev) (holds : Holds (layout_before_66 version) ev)
    (x₀ x₁ x₂ x₃ p q r c : List ℕ) (hp : p ≡ over ev.preamble x₀) (hq : q ≡ over (firsts ev.reactions) x₁) (hr : r ≡ over (seconds ev.reactions) x₂) (hc : c ≡ over ev.coefficients x₃) where
  fp : (take (length ev.preamble) p ≡ ev.preamble) × (length ev.preamble ≤ length p)
  fp = front ev.preamble x₀ p (length ev.preamble) hp refl

  fq : (take (length ev.reactions) q ≡ firsts ev.reactions) × (length ev.reactions ≤ length q)
  fq = front (firsts ev.reactions) x₁ q (length ev.reactions) hq (simp length-map)

  fr : (take (length ev.reactions) r ≡ seconds ev.reactions) × (length ev.reactions ≤ length r)
  fr = front (seconds ev.reactions) x₂ r (length ev.reactions) hr (simp length-map)

  fc : (take (length ev.coefficients) c ≡ ev.coefficients) × (length ev.coefficients ≤ length c)
  fc = front ev.coefficients x₃ c (length ev.coefficients) hc refl

  -- the window's offset goes by the reactions before it
  window_is : window_in (describe ev) ≡ ev.window
  unfolding describe
  window_is = let e : ev.window.offset ≡ length ev.reactions * 32 + 8 = ap (λ (w : FoundWindow). w.offset) placed in rw (← e)

  event_is : as_event (describe ev) p q r c ≡ ev
  unfolding describe
  event_is = rw (fp.0, fq.0, fr.0, fc.0, zip-back ev.reactions) (ap (λ (w : FoundWindow). with_its w) window_is)
    where
      with_its : FoundWindow → Event
      with_its w = record { preamble = ev.preamble; reactions = ev.reactions; window = w; coefficients = ev.coefficients }

  pub is_held : held_before_66 version (describe ev) p q ≡ true
  unfolding describe layout_before_66
  is_held =
      let codes : same_codes (settings ev.preamble) (settings (take (length ev.preamble) p)) ≡ true = rw fp.0 (codes_themselves (settings ev.preamble)) in
      let own : same_activation (event_activation ev.preamble (firsts ev.reactions)) (event_activation (take (length ev.preamble) p) (take (length ev.reactions) q)) ≡ true =
      rw (fp.0, fq.0) (activation_itself (event_activation ev.preamble (firsts ev.reactions))) in
      let ends : window_given ev.window.window ev.window.low ev.window.high ≡ true =
      rw (ap (λ (w : FoundWindow). w.window) placed, float_itself (of_bits binary64 ev.window.low), float_itself (of_bits binary64 ev.window.high)) in
      rw (
        lt-ltb version 66 low,
        eq-eqb (length ev.preamble) (size_for_version version) holds.0,
        le-leb (length ev.preamble) (length p) fp.1,
        codes,
        le-leb (length ev.reactions) (length q) fq.1,
        own,
        ends,
        lt-ltb (length ev.reactions) (2 ^ 32) holds.1.0,
        lt-ltb (length ev.coefficients) (2 ^ 32) holds.1.1.2.1.1.0,
      )

  pub writes : (room : ℕ) → length (written (layout_before_66 version) ev) ≤ room → write_before_66 version (describe ev) p q r c room ≡ ok (written (layout_before_66 version) ev)
  unfolding write_before_66 write_if_fits describe
  writes room l = rw (is_held, event_is) (counted room l)
    where
      counted : (room : ℕ) → length (written (layout_before_66 version) ev) ≤ room
          → if_fits (fits (length ev.preamble ∷ length ev.reactions ∷ length ev.reactions ∷ length ev.coefficients ∷ length (written (layout_before_66 version) ev) ∷ []) (length p ∷ length q ∷ length r ∷ length c ∷ room ∷ [])) (written (layout_before_66 version) ev)
          ≡ ok (written (layout_before_66 version) ev)
      counted room l = rw (le-leb _ _ fp.1, le-leb _ _ fq.1, le-leb _ _ fr.1, le-leb _ _ fc.1, le-leb _ _ l)

-- ---- the event that was read
record Read (version : ℕ) (run : List ℕ) (at : ℕ) (capacities : List ℕ) (v : EventAndNext × List (List ℕ)) : Type 0 where
  event : Event × Lists
  next : ℕ
  there : parse (before_66 version) run at ≡ parsed event next
  is : v ≡ (answer_of event.0 next, event_lists event.0)

was_read : (version primary dependent at : ℕ) (capacities run : List ℕ) → version < 66 → {v : EventAndNext × List (List ℕ)} → ok v ≡ read_event version primary dependent capacities at run
    → Read version run at capacities v
unfolding read_event event layout event_if_fits lists_if_fit parse
was_read version primary dependent at capacities run low {v} h =
    let f = part_ok 3 at (parser.◌>>=◌ (before_66 version) (λ (x : Event × Lists). done x.0)) (event_if_fits capacities) run (rw (lt-leb 66 version low) at h) in
    let b = bind_parsed (before_66 version) (λ (x : Event × Lists). done x.0) run at f.there in
    let ev : b.first.0 ≡ f.value = cc b.there in
    let next : b.middle ≡ f.next = cc b.there in
    let w = room_true (fits (lengths (event_lists f.value)) capacities) (answer_of f.value f.next, event_lists f.value) f.made in
    record { event = b.first; next = b.middle; there = b.here; is = w.1 ∙ rw (ev, next) }

by_answer : (version : ℕ) (ev : Event) (next at room : ℕ) (run p q r c : List ℕ) (v : EventAndNext) → v ≡ answer_of ev next
    → write_before_66 version (describe ev) p q r c room ≡ ok (bytes run at (next - at)) → write_before_66 version v.event p q r c room ≡ ok (bytes run at (v.next - at))
by_answer version ev next at room run p q r c v e h = rw e h

four : {a b c d a' b' c' d' : List ℕ} → ◌≡◌ {A = List (List ℕ)} (a ∷ b ∷ c ∷ d ∷ []) (a' ∷ b' ∷ c' ∷ d' ∷ []) → (a ≡ a') × (b ≡ b') × (c ≡ c') × (d ≡ d')
four h = (cc, cc, cc, cc)

-- the slices after a read that was not refused
module _ (version : ℕ) (low : version < 66) (run : List ℕ) (is_bytes : Bytes run) (at primary dependent : ℕ) (x₀ x₁ x₂ x₃ p q r c : List ℕ) (a : Result EventAndNext Refusal) {v : EventAndNext}
    (l : LeftLists (λ capacities. read_event version primary dependent capacities at run) (x₀ ∷ x₁ ∷ x₂ ∷ x₃ ∷ []) (outcome_of a) (p ∷ q ∷ r ∷ c ∷ [])) (ha : outcome_of a ≡ ok v) where
  record Stood : Type 0 where
    event : Event
    next : ℕ
    answer : v ≡ answer_of event next
    placed : Placed event
    stands : Stands (layout_before_66 version) event run at next
    in_preamble : p ≡ over event.preamble x₀
    in_precursors : q ≡ over (firsts event.reactions) x₁
    in_energies : r ≡ over (seconds event.reactions) x₂
    in_coefficients : c ≡ over event.coefficients x₃

  stood : Stood
  stood =
      let w = wrote (rw ha at l) in
      let f = was_read version primary dependent at (lengths (x₀ ∷ x₁ ∷ x₂ ∷ x₃ ∷ [])) run low w.is in
      let ev = f.event.0 in
      let back = writes_back (λ (x : Event × Lists). x.0) (layout_before_66 version) (λ x. Placed x.0) run at f.next f.event (keeps version) is_bytes f.there in
      let slices : (p ∷ q ∷ r ∷ c ∷ []) ≡ over_all (event_lists ev) (x₀ ∷ x₁ ∷ x₂ ∷ x₃ ∷ []) = w.written ∙ ap (λ (x : EventAndNext × List (List ℕ)). over_all x.1 (x₀ ∷ x₁ ∷ x₂ ∷ x₃ ∷ [])) f.is in
      let fronts = four slices in
      record {
        event = ev;
        next = f.next;
        answer = w.answered ∙ ap (λ (x : EventAndNext × List (List ℕ)). x.0) f.is;
        placed = back.0;
        stands = back.1;
        in_preamble = fronts.0;
        in_precursors = fronts.1;
        in_energies = fronts.2;
        in_coefficients = fronts.3;
      }

  held_by : (s : Stood) (u : EventAndNext) → u ≡ answer_of s.event s.next → held_before_66 version u.event p q ≡ true
  held_by s u e = rw e (is_held version low s.event s.placed s.stands.held x₀ x₁ x₂ x₃ p q r c s.in_preamble s.in_precursors s.in_energies s.in_coefficients)

  -- An event that was read is never refused 10, whatever its skipped words are
  pub event_held : held_before_66 version v.event p q ≡ true
  event_held = held_by stood v stood.answer

  -- An event that was read at any place of any run writes back, by the slices that the reader filled, to the run's bytes from its place to
  -- its end, if its skipped words were zero
  pub event_writes_back : SkippedZero version run at → (room : ℕ) → v.next - at ≤ room → write_before_66 version v.event p q r c room ≡ ok (bytes run at (v.next - at))
  event_writes_back z room few = go stood
    where
      go : Stood → write_before_66 version v.event p q r c room ≡ ok (bytes run at (v.next - at))
      go s =
          let same = s.stands.same (skipped version run at z) in
          let next : v.next ≡ s.next = ap (λ (x : EventAndNext). x.next) s.answer in
          let size : length (written (layout_before_66 version) s.event) ≤ room = rw same (simp (length-take, length-drop) (omega (arith, next))) in
          by_answer version s.event s.next at room run p q r c v s.answer
          (writes version low s.event s.placed s.stands.held x₀ x₁ x₂ x₃ p q r c s.in_preamble s.in_precursors s.in_energies s.in_coefficients room size ∙ ap ok same)
