-- Pairs in two lent slices, column by column.
use Rattle.std.specs.Prelude.{Ok, Result}
use Rattle.std.proofs.Common.{◌≡◌, ℕ, ◌≤◌, true, List, [], ◌∷◌, length, sym, ap, ◌∙◌, le-leb}
use Rattle.refusal.specs.declared.Refusal.{Refusal}
use Rattle.lists.specs.Written.{each, over}
use Rattle.lists.specs.Left.{after, fits, firsts, seconds, pairs_if_fit, LeftPairs}
use Rattle.lists.proofs.Left.{left_written}
use Rattle.lists.proofs.Laws.{length-each, map_each}

module _ {A B : Type 0} (ps : List (A × B)) (xs : List A) (ys : List B) {xs' : List A} {ys' : List B} where
  -- both columns are written
  pub pairs_over : {n : ℕ} → length ps ≡ n → fits (n ∷ n ∷ []) (length xs ∷ length ys ∷ []) ≡ true → xs' ≡ over (firsts ps) xs → ys' ≡ over (seconds ps) ys
      → LeftPairs (λ a b. pairs_if_fit a b ps) xs ys (Ok n) xs' ys'
  unfolding pairs_if_fit
  pairs_over count room e f = left_written {a = ps} (rw (count, room)) (sym count) (rw (e, f))

  -- where there is room a call that hands pairs out has written both
  pub pairs_room : (r : Result ℕ Refusal) → length ps ≤ length xs → length ps ≤ length ys → LeftPairs (λ a b. pairs_if_fit a b ps) xs ys r xs' ys'
      → (xs' ≡ over (firsts ps) xs) × (ys' ≡ over (seconds ps) ys)
  unfolding pairs_if_fit after
  pairs_room r p q l =
      let e = rw (le-leb _ _ p, le-leb _ _ q) at l.stands in
      (ap (λ (z : List A × List B). z.0) e, ap (λ (z : List A × List B). z.1) e)

-- f 0, f 1, .. beside g 0, g 1, ..
pub each_over : {A B : Type 0} (f : ℕ → A) (g : ℕ → B) (n : ℕ) (xs : List A) (ys : List B) {xs' : List A} {ys' : List B}
    → fits (n ∷ n ∷ []) (length xs ∷ length ys ∷ []) ≡ true → xs' ≡ over (each f n) xs → ys' ≡ over (each g n) ys
    → LeftPairs (λ a b. pairs_if_fit a b (each (λ i. (f i, g i)) n)) xs ys (Ok n) xs' ys'
each_over {A} {B} f g n xs ys room e h =
    pairs_over (each (λ i. (f i, g i)) n) xs ys (length-each _ n) room
    (e ∙ ap (λ l. over l xs) (sym (map_each (λ (p : A × B). p.0) (λ i. (f i, g i)) n)))
    (h ∙ ap (λ l. over l ys) (sym (map_each (λ (p : A × B). p.1) (λ i. (f i, g i)) n)))
