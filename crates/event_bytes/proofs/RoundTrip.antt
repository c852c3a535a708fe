-- L3: an event that was written reads back.
use Rattle.std.specs.Prelude.{Result}
use Rattle.std.specs.List.{zip}
use Rattle.std.proofs.lemmas.Slice.Zip.{length-zip, firsts-zip, seconds-zip}
use mathlib.Core.Path.{◌≡◌, refl, ap, sym, ◌∙◌}
use Prim.Native.Nat.{ℕ, zero, suc, ◌+◌, ◌*◌, ◌^◌, ◌≤◌, ◌<◌}
use native.Mathlib.Omega.{arith}
use mathlib.Core.Bool.{true}
use mathlib.Core.List.{List, [], ◌∷◌, ◌++◌}
use lib.Dec.{T}
use lib.Ieee.{Float, binary64, of_bits, to_bits}
use lib.Ieee as ieee
use lib.Ieee.Bits.{of_bits-to_bits, of_bits-fits}
use lib.ListN.{length, take, drop, length-take, length-append}
use borrow.Author.Tests.{le-leb, lt-leb, eqb-true}
use Rattle.refusal.specs.Outcome.{ok}
use Rattle.refusal.specs.Number.{outcome_of}
use Rattle.refusal.specs.declared.Refusal.{Refusal}
use Rattle.lists.specs.Left.{fits, if_fits, lengths, lists_if_fit, LeftListBy}
use Rattle.lists.proofs.Cases.{and_true, false_not_true}
use Rattle.lists.proofs.Left.{fits_true, wrote}
use Rattle.parser.specs.Parser.{parsed, parse, done}
use Rattle.parser.specs.Call.{outcome}
use Rattle.parser.proofs.Prefix.{parse_bind}
use Rattle.layout.specs.Layout.{le_bytes, concat, word, written}
use Rattle.layout.proofs.Numbers.{length-le_bytes, length-concat}
use Rattle.layout.proofs.Conditions.{Every, Holds, Returns}
use Rattle.layout.proofs.ReadsBack.{reads_back}
use Rattle.writer.proofs.Writing.{held_ok, written_in}
use Rattle.event_window.specs.declared.Window.{Window}
use Rattle.event_window.specs.declared.Window.TheVariants.{Absent, Ends}
use Rattle.event_window.specs.declared.FoundWindow.{FoundWindow}
use Rattle.event_preamble.specs.Settings.{settings}
use Rattle.event_record.specs.Activation.{event_activation}
use Rattle.event_record.specs.Event.{Event, describe, answer_of, event_lists, event_if_fits}
use Rattle.event_record.specs.declared.ScanEvent.{ScanEvent}
use Rattle.event_record.specs.declared.EventAndNext.{EventAndNext}
use Rattle.event_record.specs.declared.Lists.{Lists}
use Rattle.event_before_66.specs.Layout.{reaction, lists_before_66, layout_before_66, before_66}
use Rattle.events.specs.Event.{layout, event, read_event}
use Rattle.event_bytes.specs.Write.{window_given, same_float, held_before_66, as_event, write_if_fits, write_before_66}
use Rattle.event_bytes.specs.RoundTrip.{Words, Doubles, Typed}
use Rattle.event_bytes.proofs.Bytes.{words}
use Rattle.event_bytes.proofs.Held.{Held, held}
use Rattle.event_bytes.proofs.Codes.{codes_same, activation_same}

-- ---- what the law on layouts asks of an event
words_take : (n : ℕ) (xs : List ℕ) → Words xs → Words (take n xs)
words_take zero xs h i = omega arith
words_take (suc n) [] h i = omega arith
words_take (suc n) (x ∷ xs) h zero = h 0
words_take (suc n) (x ∷ xs) h (suc i) = words_take n xs (λ j. h (suc j)) i

reactions_hold : (ps es : List ℕ) → Words ps → Words es → Every (λ r. Holds reaction r) (zip ps es)
unfolding reaction
reactions_hold [] es h l = tt
reactions_hold (p ∷ ps) [] h l = tt
reactions_hold (p ∷ ps) (e ∷ es) h l = ((h 0, (l 0, tt)), reactions_hold ps es (λ i. h (suc i)) (λ i. l (suc i)))

coefficients_hold : (cs : List ℕ) → Words cs → Every (λ c. Holds (word 8 (λ (c : ℕ). c)) c) cs
coefficients_hold [] h = tt
coefficients_hold (c ∷ cs) h = ((h 0, tt), coefficients_hold cs (λ i. h (suc i)))

-- `check_count` passes, as the coefficients follow
pub counted_there : (cs : List ℕ) → length cs * 8 ≤ length (concat (λ c. written (word 8 (λ (c : ℕ). c)) c) cs ++ (le_bytes 8 0 ++ []))
counted_there cs = rw (length-append (concat (λ c. written (word 8 (λ (c : ℕ). c)) c) cs) (le_bytes 8 0 ++ []), words cs, length-concat 8 (le_bytes 8) (length-le_bytes 8) cs) (omega arith)

-- the window of an event below version 66 goes by its bits and the reactions before it
abbrev pub Placed : Event → Type 0
Placed e = e.window ≡ (lists_before_66 (length e.reactions) e.window.low e.window.high (length e.coefficients)).window

abbrev with_places : Event → Event × Lists
with_places e = (e, lists_before_66 (length e.reactions) e.window.low e.window.high (length e.coefficients))

abbrev with_window : Event → FoundWindow → Event × Lists
with_window e x = (record { preamble = e.preamble; reactions = e.reactions; window = x; coefficients = e.coefficients }, (with_places e).1)

returns : (version : ℕ) (e : Event) → Placed e → Returns (layout_before_66 version) e (with_places e)
unfolding layout_before_66 reaction
returns version e w = (λ _. refl, (λ _. refl, ap (with_window e) (sym w)))

-- what `events::read` answers of an event below version 66
below : (version primary dependent at : ℕ) (capacities s : List ℕ) → version < 66 → {v : Event × Lists} {next : ℕ} → parse (before_66 version) s at ≡ parsed v next
    → read_event version primary dependent capacities at s ≡ event_if_fits capacities v.0 next
unfolding read_event event layout outcome parse
below version primary dependent at capacities s low h = rw (lt-leb 66 version low, parse_bind (before_66 version) (λ v. done v.0) s at, h)

abbrev as_read : ScanEvent → ℕ → EventAndNext
as_read e next = record { event = e; next = next }

pair : {A B : Type 0} {a b : A} {x y : B} → a ≡ b → x ≡ y → ◌≡◌ {A = A × B} (a, x) (b, y)
pair p q = rw (p, q)

-- ---- a record that is held is that of its event
float_same : (x : Float) (b : ℕ) → T (ieee.fits binary64 x) → same_float x (of_bits binary64 b) ≡ true → x ≡ of_bits binary64 b
float_same x b fit h =
    let e : to_bits binary64 x ≡ to_bits binary64 (of_bits binary64 b) = eqb-true (to_bits binary64 x) (to_bits binary64 (of_bits binary64 b)) h in
    sym (of_bits-to_bits binary64 x fit) ∙ ap (of_bits binary64) e ∙ of_bits-to_bits binary64 (of_bits binary64 b) (of_bits-fits binary64 b)

window_same : (w : Window) (low high : ℕ) → Doubles w → window_given w low high ≡ true → w ≡ Ends (of_bits binary64 low) (of_bits binary64 high)
window_same Absent low high d h = false_not_true h
window_same (Ends l u) low high d h =
    let one = and_true (same_float l (of_bits binary64 low)) _ h in
    let two = and_true (same_float u (of_bits binary64 high)) true one.1 in
    rw (float_same l low d.0 one.0, float_same u high d.1 two.0)

module _ (version : ℕ) (e : ScanEvent) (p q r c : List ℕ) (t : Typed e) (h : Held version e p q)
    (w₁ : e.preamble_len ≤ length p) (w₂ : e.reactions ≤ length q) (w₃ : e.reactions ≤ length r) (w₄ : e.coefficients ≤ length c) where
  abbrev ev : Event
  ev = as_event e p q r c

  abbrev pub lists : List (List ℕ)
  lists = take e.preamble_len p ∷ take e.reactions q ∷ take e.reactions r ∷ take e.coefficients c ∷ []

  abbrev pub counts : List ℕ
  counts = e.preamble_len ∷ e.reactions ∷ e.reactions ∷ e.coefficients ∷ []

  of_preamble : length (take e.preamble_len p) ≡ e.preamble_len
  of_preamble = simp length-take (omega (arith, w₁))

  of_precursors : length (take e.reactions q) ≡ e.reactions
  of_precursors = simp length-take (omega (arith, w₂))

  of_energies : length (take e.reactions r) ≡ e.reactions
  of_energies = simp length-take (omega (arith, w₃))

  of_coefficients : length (take e.coefficients c) ≡ e.coefficients
  of_coefficients = simp length-take (omega (arith, w₄))

  both : length (take e.reactions q) ≡ length (take e.reactions r)
  both = of_precursors ∙ sym of_energies

  of_reactions : length (zip (take e.reactions q) (take e.reactions r)) ≡ e.reactions
  of_reactions = length-zip (take e.reactions q) (take e.reactions r) ∙ omega (arith, of_precursors, of_energies)

  pub lists_are : event_lists ev ≡ lists
  lists_are = rw (firsts-zip (take e.reactions q) (take e.reactions r) (sym both), seconds-zip (take e.reactions q) (take e.reactions r) (sym both))

  pub counts_are : lengths (event_lists ev) ≡ counts
  counts_are = ap lengths lists_are ∙ rw (of_preamble, of_precursors, of_energies, of_coefficients)

  pub described : describe ev ≡ e
  unfolding describe
  described =
      let codes : e.preamble ≡ settings (take e.preamble_len p) = codes_same _ _ (rw (le-leb _ _ w₁) at h.codes) in
      let there : fits (e.preamble_len ∷ e.reactions ∷ []) (length p ∷ length q ∷ []) ≡ true = rw (le-leb _ _ w₁, le-leb _ _ w₂) in
      let own : e.activation ≡ event_activation (take e.preamble_len p) (take e.reactions q) = activation_same _ _ (rw there at h.activation) in
      rw (of_preamble, of_reactions, of_coefficients, firsts-zip (take e.reactions q) (take e.reactions r) (sym both), ← codes, ← own)

  pub accepted : (capacities : List ℕ) (next : ℕ) → fits counts capacities ≡ true → event_if_fits capacities ev next ≡ ok (record { event = e; next = next }, lists)
  unfolding event_if_fits lists_if_fit
  accepted capacities next room =
      ap (λ (ns : List ℕ). if_fits (fits ns capacities) (answer_of ev next, event_lists ev)) counts_are ∙ rw room (ap ok (pair (ap (λ (x : ScanEvent). as_read x next) described) lists_are))

  placed : Placed ev
  placed = rw (of_reactions, window_same e.window e.low_mz e.high_mz t.window h.window)

  holds : Words q → Words r → Words c → Holds (layout_before_66 version) ev
  unfolding layout_before_66
  holds hq hr hc =
      let few : length (zip (take e.reactions q) (take e.reactions r)) < 2 ^ 32 = rw of_reactions h.reactions in
      let small : length (take e.coefficients c) < 2 ^ 32 = rw of_coefficients h.coefficients in (
        of_preamble ∙ h.bytes,
        (
          few,
          (
            refl,
            reactions_hold (take e.reactions q) (take e.reactions r) (words_take e.reactions q hq) (words_take e.reactions r hr),
            (t.low, (t.high, (small, (counted_there (take e.coefficients c), (refl, coefficients_hold (take e.coefficients c) (words_take e.coefficients c hc), tt))))),
          ),
        ),
      )

  pub parses : Words q → Words r → Words c → (run : List ℕ) (at : ℕ) (post : List ℕ) → let bs = written (layout_before_66 version) ev in
      drop at run ≡ bs ++ post → parse (before_66 version) run at ≡ parsed (with_places ev) (at + length bs)
  parses hq hr hc run at post here = reads_back (layout_before_66 version) ev (with_places ev) run at post (holds hq hr hc) (returns version ev placed) here

-- What a call wrote that was not refused reads back, wherever the slice stands in a run and whatever follows it: the record, the event's
-- length and every element of its lists. It is never refused where the slices hold them
pub event_reads_back : (version : ℕ) (e : ScanEvent) (p q r c : List ℕ) → Typed e → Words q → Words r → Words c → (xs ys : List ℕ) (a : Result ℕ Refusal) (n : ℕ)
    → LeftListBy (write_before_66 version e p q r c) xs a ys → outcome_of a ≡ ok n
    → (run : List ℕ) (at : ℕ) (more : List ℕ) → drop at run ≡ ys ++ more
    → (primary dependent : ℕ) (capacities : List ℕ) → fits (e.preamble_len ∷ e.reactions ∷ e.reactions ∷ e.coefficients ∷ []) capacities ≡ true
    → read_event version primary dependent capacities at run
    ≡ ok (record { event = e; next = at + n }, take e.preamble_len p ∷ take e.reactions q ∷ take e.reactions r ∷ take e.coefficients c ∷ [])
unfolding write_before_66 write_if_fits
event_reads_back version e p q r c t hq hr hc xs ys a n l ha run at more there primary dependent capacities room =
    let bs = written (layout_before_66 version) (as_event e p q r c) in
    let w = wrote (rw ha at l) in
    let ns : List ℕ = e.preamble_len ∷ e.reactions ∷ e.reactions ∷ e.coefficients ∷ length bs ∷ [] in
    let cs : List ℕ = length p ∷ length q ∷ length r ∷ length c ∷ length xs ∷ [] in
    let o = held_ok (held_before_66 version e p q) (fits ns cs) bs w.is in
    let h = held version e p q o.0 in
    let f = fits_true ns cs o.1 in
    let here = written_in run at xs ys more w.value bs there w.written o.2 in
    let size : length bs ≡ n = sym (w.answered ∙ ap length o.2) in
    below version primary dependent at capacities run h.before (parses version e p q r c t h f.0 f.1.0 f.1.1.0 f.1.1.1.0 hq hr hc run at (drop (length bs) xs ++ more) here)
    ∙ rw size (accepted version e p q r c t h f.0 f.1.0 f.1.1.0 f.1.1.1.0 capacities (at + n) room)
