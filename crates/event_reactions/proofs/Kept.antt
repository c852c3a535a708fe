-- The records that are kept, one turn of a loop after the other: counted, and written.
use mathlib.Core.Path.{◌≡◌, refl, ap, sym, ◌∙◌}
use mathlib.Core.Bool.{true, false}
use mathlib.Core.Logic.{⊎_elim}
use mathlib.Core.List.{List, [], ◌∷◌, ◌++◌, map, map-append}
use Prim.Native.Nat.{ℕ, zero, suc, ◌+◌, ◌*◌, ◌-◌, ◌≤◌, ◌<◌}
use native.Mathlib.Nat.{add-zero}
use native.Mathlib.Omega.{arith}
use lib.ListN.{length, set, length-append, length-map, length-set}
use Rattle.lists.specs.Written.{each, over, fitting}
use Rattle.lists.specs.Left.{firsts, seconds}
use Rattle.lists.proofs.Cases.{bool_cases}
use Rattle.lists.proofs.Filter.{filter-in, filter-out}
use Rattle.lists.proofs.Laws.{over_none, fitting_all, store_at}
use Rattle.event_reactions.specs.Reactions.{Reaction, reaction_at, acceptable, kept}
use Rattle.parser.specs.Parser.{word_at}

kept_in : (body : List ℕ) (from i : ℕ) → acceptable (word_at body (from + i * 32) 8) ≡ true → kept body from (i + 1) ≡ kept body from i ++ (reaction_at body (from + i * 32) ∷ [])
unfolding kept
kept_in body from i h = filter-in (λ (r : Reaction). acceptable r.0) (λ k. reaction_at body (from + k * 32)) i h

kept_out : (body : List ℕ) (from i : ℕ) → acceptable (word_at body (from + i * 32) 8) ≡ false → kept body from (i + 1) ≡ kept body from i
unfolding kept
kept_out body from i h = filter-out (λ (r : Reaction). acceptable r.0) (λ k. reaction_at body (from + k * 32)) i h

-- no record takes one away
kept_grows : (body : List ℕ) (from i d : ℕ) → length (kept body from i) ≤ length (kept body from (i + d))
kept_grows body from i zero = rw add-zero (omega arith)
kept_grows body from i (suc d) =
    let e : i + suc d ≡ i + d + 1 = omega arith in
    rw e
    (⊎_elim
    (λ (t : acceptable (word_at body (from + (i + d) * 32) 8) ≡ true). rw (kept_in body from (i + d) t, length-append) (omega (arith, kept_grows body from i d)))
    (λ (t : acceptable (word_at body (from + (i + d) * 32) 8) ≡ false). rw (kept_out body from (i + d) t) (kept_grows body from i d))
    (bool_cases (acceptable (word_at body (from + (i + d) * 32) 8))))

-- so there is room for one that is kept
pub kept_room : (body : List ℕ) (from i n : ℕ) → acceptable (word_at body (from + i * 32) 8) ≡ true → i < n → length (kept body from i) < length (kept body from n)
kept_room body from i n h below =
    let e : i + 1 + (n - (i + 1)) ≡ n = omega arith in
    let one : length (kept body from (i + 1)) ≡ length (kept body from i) + 1 = rw (kept_in body from i h) (length-append (kept body from i) (reaction_at body (from + i * 32) ∷ [])) in
    omega (arith, one, rw e at (kept_grows body from (i + 1) (n - (i + 1))))

-- a store of the next reaction's column
column_store : (f : Reaction → ℕ) (rs : List Reaction) (r : Reaction) (xs X : List ℕ) (k : ℕ) → X ≡ over (map f rs) xs → k ≡ length rs → k < length xs
    → set X k (f r) ≡ over (map f (rs ++ (r ∷ []))) xs
column_store f rs r xs X k written count room =
    rw map-append (store_at (map f rs) xs X k (f r) (f r) written (length-map rs f ∙ sym count) refl room)

-- one value, where no reaction was kept
pub column_first : (f : Reaction → ℕ) (rs : List Reaction) → length rs ≡ 0 → (v : ℕ) (xs : List ℕ) {X Y : List ℕ} → X ≡ over (map f rs) xs
    → Y ≡ fitting (v ∷ []) X → 1 ≤ length xs → Y ≡ over (v ∷ []) xs
column_first f [] none v xs written one room = one ∙ rw (written, over_none xs) (fitting_all (v ∷ []) xs room)
column_first f (r ∷ rs) none v xs written one room = absurd (omega arith)

-- ---- the loop that counts
module _ (body : List ℕ) (from : ℕ) where
  pub record Counted (count i : ℕ) : Type 0 where
    pub counted : count ≡ length (kept body from i)
    pub within : count ≤ i

  pub count_none : Counted 0 0
  unfolding kept each
  count_none = record { counted = refl; within = omega arith }

  pub count_in : (count i : ℕ) → acceptable (word_at body (from + i * 32) 8) ≡ true → Counted count i → Counted (count + 1) (i + 1)
  count_in count i h inv =
      record { counted = rw (kept_in body from i h, length-append) (ap (λ (k : ℕ). k + 1) inv.counted); within = omega arith }

  pub count_out : (count i : ℕ) → acceptable (word_at body (from + i * 32) 8) ≡ false → Counted count i → Counted count (i + 1)
  count_out count i h inv = record { counted = rw (kept_out body from i h) inv.counted; within = omega arith }

-- ---- the loop that writes
module _ (body : List ℕ) (from : ℕ) (ps es : List ℕ) where
  pub record Written (P E : List ℕ) (i : ℕ) : Type 0 where
    pub precursors_written : P ≡ over (firsts (kept body from i)) ps
    pub energies_written : E ≡ over (seconds (kept body from i)) es
    pub same_precursors : length P ≡ length ps
    pub same_energies : length E ≡ length es

  pub write_none : Written ps es 0
  unfolding kept each
  write_none = record { precursors_written = rw over_none; energies_written = rw over_none; same_precursors = refl; same_energies = refl }

  pub write_in : (P E : List ℕ) (count i : ℕ) → acceptable (word_at body (from + i * 32) 8) ≡ true → count ≡ length (kept body from i)
      → count < length ps → count < length es → Written P E i
      → Written (set P count (word_at body (from + i * 32) 8)) (set E count (word_at body (from + i * 32 + 16) 8)) (i + 1)
  write_in P E count i h k p e inv =
      record {
        precursors_written = rw (kept_in body from i h) (column_store (λ r. r.0) (kept body from i) (reaction_at body (from + i * 32)) ps P count inv.precursors_written k p);
        energies_written = rw (kept_in body from i h) (column_store (λ r. r.1) (kept body from i) (reaction_at body (from + i * 32)) es E count inv.energies_written k e);
        same_precursors = simp length-set inv.same_precursors;
        same_energies = simp length-set inv.same_energies;
      }

  pub write_out : (P E : List ℕ) (i : ℕ) → acceptable (word_at body (from + i * 32) 8) ≡ false → Written P E i → Written P E (i + 1)
  write_out P E i h inv =
      record {
        precursors_written = rw (kept_out body from i h) inv.precursors_written;
        energies_written = rw (kept_out body from i h) inv.energies_written;
        same_precursors = inv.same_precursors;
        same_energies = inv.same_energies;
      }
