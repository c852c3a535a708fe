-- What a reader leaves that finds an event and writes it.
use mathlib.Core.Path.{◌≡◌}
use Prim.Native.Nat.{ℕ}
use mathlib.Core.List.{List}
use Rattle.refusal.specs.Outcome.{Outcome, ok, refused, and_then}
use Rattle.lists.specs.Left.{LeftLists}
use Rattle.lists.proofs.Left.{left_refused, left_same}
use Rattle.event_record.specs.Event.{event_if_fits}
use Rattle.event_record.specs.Places.{event_at}
use Rattle.event_record.specs.declared.Places.{Places}
use Rattle.event_record.specs.declared.EventAndNext.{EventAndNext}

-- the event at places of s that were found, where the slices hold it
abbrev pub then_if_fits : List ℕ → Outcome Places → List ℕ → Outcome (EventAndNext × List (List ℕ))
then_if_fits s o capacities = and_then o (λ p. event_if_fits capacities (event_at s p) p.next)

module _ (s : List ℕ) {o : Outcome Places} {xs : List (List ℕ)} where
  pub read_refused : {n : ℕ} {carries : List ℕ} → refused n carries ≡ o → LeftLists (then_if_fits s o) xs (refused n carries) xs
  read_refused h = left_refused (rw (← h))

  pub read_found : {p : Places} {t : Outcome EventAndNext} {ys : List (List ℕ)} → ok p ≡ o
      → LeftLists (λ c. event_if_fits c (event_at s p) p.next) xs t ys → LeftLists (then_if_fits s o) xs t ys
  read_found h w = left_same (rw (← h)) w
