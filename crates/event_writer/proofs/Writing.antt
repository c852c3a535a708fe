-- An event is written where the one test of the lent slices says that they hold it.
use mathlib.Core.Path.{◌≡◌, ap, ◌∙◌}
use Prim.Native.Nat.{ℕ, ◌*◌, ◌+◌, ◌≤◌}
use mathlib.Core.Bool.{true, false}
use mathlib.Core.List.{List, [], ◌∷◌}
use lib.ListN.{length, take, length-map}
use lib.Seq.{take_at, take-length}
use Rattle.refusal.specs.Outcome.{Outcome, ok, refused}
use Rattle.lists.specs.Left.{Left, columns, pairs_if_fit, fits, lengths, firsts, over_all, LeftLists}
use Rattle.lists.specs.Written.{each, over, fitting}
use Rattle.lists.proofs.Laws.{fitting_all, length_over, length-each}
use Rattle.lists.proofs.Left.{fits_true, lists_no_room, lists_written}
use Rattle.parser.specs.Parser.{bytes, word_at}
use Rattle.event_preamble.specs.Settings.{settings}
use Rattle.event_reactions.specs.Reactions.{in_source}
use Rattle.event_reactions.proofs.Count.{length-precursors, all_written}
use Rattle.event_record.specs.Activation.{event_activation}
use Rattle.event_record.specs.Event.{Event, describe, event_lists, event_if_fits}
use Rattle.event_record.specs.Places.{event_in}
use Rattle.event_record.specs.declared.Lists.{Lists}
use Rattle.event_record.specs.declared.ScanEvent.{ScanEvent}

-- the event of a preamble, a body and its lists, and four lent slices
module _ (preamble body : List ℕ) (j : Lists) (p q e c : List ℕ) where
  abbrev event : Event
  event = event_in preamble body j

  abbrev pub lent : List (List ℕ)
  lent = p ∷ q ∷ e ∷ c ∷ []

  abbrev counts : ℕ → List ℕ
  counts n = length preamble ∷ n ∷ n ∷ j.coefficients ∷ []

  -- each list is written by a call of its own
  pub all_lists : fits (counts (length (in_source body j.reactions))) (lengths lent) ≡ true
      → {p' q' e' c' : List ℕ} → p' ≡ fitting (bytes preamble 0 (length preamble)) p
      → {r : Outcome ℕ} → Left length columns (pairs_if_fit (length q) (length e) (in_source body j.reactions)) (q, e) r (q', e')
      → c' ≡ fitting (each (λ i. word_at body (j.coefficients_at + i * 8) 8) j.coefficients) c
      → (p' ∷ q' ∷ e' ∷ c' ∷ []) ≡ over_all (event_lists event) lent
  unfolding event_in
  all_lists h hp hr hc =
      let all = fits_true (counts (length (in_source body j.reactions))) (lengths lent) h in
      let both = all_written (in_source body j.reactions) q e all.1.0 all.1.1.0 hr in
      rw (
        hp,
        take-length preamble,
        fitting_all preamble p all.0,
        both.0,
        both.1,
        hc,
        fitting_all (each (λ i. word_at body (j.coefficients_at + i * 8) 8) j.coefficients) c (rw length-each all.1.1.1.0),
      )

  module _ {n : ℕ} (count : n ≡ length (in_source body j.reactions)) (next : ℕ) where
    counts_are : lengths (event_lists event) ≡ counts n
    unfolding event_in
    counts_are = simp (length-map, length-each, count)

    room_is : fits (lengths (event_lists event)) (lengths lent) ≡ fits (counts n) (lengths lent)
    room_is = ap (λ ns. fits ns (lengths lent)) counts_are

    pub no_room : fits (counts n) (lengths lent) ≡ false → LeftLists (λ c. event_if_fits c event next) lent (refused 8 []) lent
    unfolding event_if_fits
    no_room h = lists_no_room _ _ _ (room_is ∙ h)

    module _ (h : fits (counts n) (lengths lent) ≡ true) {p' q' e' c' : List ℕ} (w : (p' ∷ q' ∷ e' ∷ c' ∷ []) ≡ over_all (event_lists event) lent) where
      second : q' ≡ over (firsts event.reactions) q
      second = cc

      -- the precursors that the event's activation goes by
      pub holds_precursors : n ≤ length q'
      unfolding event_in
      holds_precursors =
          let all = fits_true (counts n) (lengths lent) h in
          rw (second, length_over (firsts event.reactions) q (rw (length-precursors, ← count) all.1.0)) all.1.0

      front : take n q' ≡ firsts event.reactions
      unfolding event_in over
      front =
          let m : n ≡ length event.reactions = count in
          rw (second, m) (take_at (firsts event.reactions) _ (length event.reactions) (length-precursors event.reactions))

      pub event_written : (r : ScanEvent)
          → r ≡ record {
            preamble_len = length preamble;
            reactions = n;
            coefficients = j.coefficients;
            window = j.window.window;
            low_mz = j.window.low;
            high_mz = j.window.high;
            preamble = settings preamble;
            activation = event_activation preamble (take n q');
          }
          → LeftLists (λ c. event_if_fits c event next) lent (ok (record { event = r; next = next })) (p' ∷ q' ∷ e' ∷ c' ∷ [])
      unfolding event_if_fits describe event_in
      event_written r d = lists_written _ _ _ (room_is ∙ h) (rw (d, front, count, length-each)) w
