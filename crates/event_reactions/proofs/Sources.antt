-- Where a body's reactions come from: nowhere, from its counted records, or from the record without a count.
use mathlib.Core.Path.{◌≡◌, refl, ap, ◌∙◌}
use mathlib.Core.Bool.{Bool, true, false}
use mathlib.Core.List.{List, [], ◌∷◌}
use mathlib.Core.Logic.{⊎_elim}
use Prim.Native.Nat.{ℕ, ◌+◌, ◌*◌, ◌-◌, ◌^◌, ◌≤◌, ◌<◌, min}
use native.Mathlib.Omega.{arith}
use borrow.Author.Tests.{le-leb, lt-leb}
use lib.ListN.{length}
use Rattle.lists.specs.Written.{each, fitting}
use Rattle.lists.specs.Left.{firsts, seconds}
use Rattle.lists.proofs.Laws.{each_same, map_each}
use Rattle.lists.proofs.Cases.{leb_cases}
use Rattle.parser.specs.Parser.{bytes, little_endian}
use Rattle.reader.proofs.Words.{le_shifted}
use Rattle.event_reactions.specs.Reactions.{Reaction, reaction_at, kept, largest, record_count, has_uncounted, uncounted, or_if_empty, reactions_in, in_source}
use Rattle.event_reactions.specs.declared.Source.TheVariants.{Every}

-- the records that are read lie within the body
pub records_fit : (body : List ℕ) (at from : ℕ) → record_count body at from * 32 ≤ length body
unfolding record_count
records_fit body at from =
    ⊎_elim (λ e. rw e (omega arith)) (λ e. rw e (omega arith)) (leb_cases (little_endian (bytes body at 4)) (largest body from))

pub too_short : (tribrid : Bool) (body : List ℕ) → length body < 8 → reactions_in tribrid body ≡ []
unfolding reactions_in
too_short true body h = rw (lt-leb _ _ h)
too_short false body h = rw (lt-leb _ _ h)

or_if_empty_some : (rs ss : List Reaction) → (length rs ≡ 0 → ⊥) → or_if_empty rs ss ≡ rs
or_if_empty_some [] ss h = absurd (h refl)
or_if_empty_some (r ∷ rs) ss h = refl

or_if_empty_none : (rs ss : List Reaction) → length rs ≡ 0 → or_if_empty rs ss ≡ ss
or_if_empty_none [] ss h = refl
or_if_empty_none (r ∷ rs) ss h = absurd (omega arith)

or_if_empty_most : (rs ss : List Reaction) → length rs ≤ length (or_if_empty rs ss)
or_if_empty_most [] ss = omega arith
or_if_empty_most (r ∷ rs) ss = omega arith

or_nothing : (rs : List Reaction) → or_if_empty rs [] ≡ rs
or_nothing [] = refl
or_nothing (r ∷ rs) = refl

-- n records are read
module _ (body : List ℕ) (h : 8 ≤ length body) {tribrid : Bool} {n : ℕ} where
  pub of_tribrid : tribrid ≡ true → n ≡ record_count body 0 4 → reactions_in tribrid body ≡ kept body 4 n
  unfolding reactions_in
  of_tribrid t e = rw (t, e, le-leb _ _ h)

  module _ (t : tribrid ≡ false) (e : n ≡ record_count body 4 8) where
    pub of_counted : (length (kept body 8 n) ≡ 0 → ⊥) → reactions_in tribrid body ≡ kept body 8 n
    unfolding reactions_in
    of_counted some = rw (t, le-leb _ _ h, ← e) (or_if_empty_some _ _ some)

    pub counted_within : length (kept body 8 n) ≤ length (reactions_in tribrid body)
    unfolding reactions_in
    counted_within = rw (t, le-leb _ _ h, ← e) (or_if_empty_most (kept body 8 n) (uncounted body))

    pub of_uncounted : length (kept body 8 n) ≡ 0 → has_uncounted body ≡ true → reactions_in tribrid body ≡ reaction_at body 4 ∷ []
    unfolding reactions_in uncounted
    of_uncounted none u = rw (t, le-leb _ _ h, ← e, u) (or_if_empty_none (kept body 8 n) _ none)

    pub of_neither : has_uncounted body ≡ false → reactions_in tribrid body ≡ kept body 8 n
    unfolding reactions_in uncounted
    of_neither u = rw (t, le-leb _ _ h, ← e, u) (or_nothing _)

-- ---- records of which none is left out
module _ (body : List ℕ) (from stride n : ℕ) (xs : List ℕ) {xs' : List ℕ} where
  pub every_precursor : xs' ≡ fitting (each (λ i. little_endian (bytes body (from + i * stride) 8)) n) xs → xs' ≡ fitting (firsts (in_source body (Every from stride n))) xs
  unfolding in_source
  every_precursor e = e ∙ rw map_each

  -- the energies' first place stops at the largest, which is after the body too
  pub every_energy : length body < 2 ^ 64 → {at : ℕ} → at ≡ min (from + 16) (2 ^ 64 - 1)
      → xs' ≡ fitting (each (λ i. little_endian (bytes body (at + i * stride) 8)) n) xs → xs' ≡ fitting (seconds (in_source body (Every from stride n))) xs
  unfolding in_source
  every_energy few h e =
      let place : (i : ℕ) → from + 16 + i * stride ≡ from + i * stride + 16 = λ i. omega arith in
      let same = each_same _ _ n (λ i. le_shifted body (from + 16) (i * stride) 8 few ∙ ap (λ (p : ℕ). little_endian (bytes body p 8)) (place i)) in
      e ∙ rw (h, map_each, same)
