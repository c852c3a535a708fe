-- Each reaction has one precursor and one energy.
use mathlib.Core.Path.{◌≡◌, ap}
use mathlib.Core.List.{List}
use Prim.Native.Nat.{ℕ, ◌≤◌}
use lib.ListN.{length, length-map}
use borrow.Author.Tests.{le-leb}
use Rattle.refusal.specs.Outcome.{Outcome}
use Rattle.lists.specs.Written.{over}
use Rattle.lists.specs.Left.{after, Left, firsts, seconds, columns, pairs_if_fit}
use Rattle.event_reactions.specs.Reactions.{Reaction}

pub length-precursors : (rs : List Reaction) → length (firsts rs) ≡ length rs
length-precursors rs = length-map rs _

pub length-energies : (rs : List Reaction) → length (seconds rs) ≡ length rs
length-energies rs = length-map rs _

-- a writer that had room for all has written them
pub all_written : (rs : List Reaction) (xs ys : List ℕ) {outcome_of : Outcome ℕ} {xs' ys' : List ℕ} → length rs ≤ length xs → length rs ≤ length ys
    → Left length columns (pairs_if_fit (length xs) (length ys) rs) (xs, ys) outcome_of (xs', ys') → (xs' ≡ over (firsts rs) xs) × (ys' ≡ over (seconds rs) ys)
unfolding pairs_if_fit after
all_written rs xs ys h k l =
    let e = rw (le-leb (length rs) (length xs) h, le-leb (length rs) (length ys) k) at l.stands in
    (ap (λ (p : List ℕ × List ℕ). p.0) e, ap (λ (p : List ℕ × List ℕ). p.1) e)
