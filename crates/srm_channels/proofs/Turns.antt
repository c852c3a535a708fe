-- The places that hold a channel, one turn of a loop after the other.
use mathlib.Core.Path.{◌≡◌, refl, sym, ap, ◌∙◌}
use mathlib.Core.Bool.{Bool, true, false}
use mathlib.Core.List.{List, [], ◌∷◌, ◌++◌, map, map-append}
use Prim.Native.Nat.{ℕ, ◌+◌, ◌-◌, ◌≤◌, ◌<◌}
use native.Mathlib.Omega.{arith}
use lib.ListN.{length, set, length-append, length-map, length-set}
use Rattle.lists.specs.Written.{over}
use Rattle.lists.proofs.Laws.{over_none, store_at}
use Rattle.srm_transition.specs.Places.{places_where}
use Rattle.srm_transition.proofs.Places.{places_none, places_in, places_out, places_front}

module _ {A : Type 0} (test : ℕ → Bool) (value : ℕ → A) (from : ℕ) where
  -- the values of the places below `end`
  abbrev passing : ℕ → List A
  passing end = map value (places_where test from end)

  passing_in : (i : ℕ) → from ≤ i → test i ≡ true → passing (i + 1) ≡ passing i ++ (value i ∷ [])
  passing_in i h t = rw (places_in test from i h t, map-append)

  -- ---- the loop that counts
  pub record Counted (count i : ℕ) : Type 0 where
    pub counted : count ≡ length (passing i)
    pub within : count ≤ i
    pub started : from ≤ i

  pub count_none : Counted 0 from
  count_none = record { counted = rw (places_none test from from (omega arith)); within = omega arith; started = omega arith }

  pub count_in : (count i : ℕ) → test i ≡ true → Counted count i → Counted (count + 1) (i + 1)
  count_in count i t inv =
      record {
        counted = rw (passing_in i inv.started t, length-append) (ap (λ (k : ℕ). k + 1) inv.counted);
        within = omega arith;
        started = omega arith;
      }

  pub count_out : (count i : ℕ) → test i ≡ false → Counted count i → Counted count (i + 1)
  count_out count i t inv =
      record { counted = rw (places_out test from i inv.started t) inv.counted; within = omega arith; started = omega arith }

  -- after the last place all are counted
  pub count_done : (count i end : ℕ) → Counted count i → i - from ≡ end - from → count ≡ length (passing end)
  unfolding places_where
  count_done count i end inv e = rw (← e) inv.counted

  -- there is room for one that passes where there is room for all
  pub count_room : (count i end : ℕ) → test i ≡ true → Counted count i → i < end → count < length (passing end)
  count_room count i end t inv h =
      rw (places_front test from (i + 1) (omega arith) end (omega arith), map-append, passing_in i inv.started t)
      (simp length-append (omega (arith, inv.counted)))

  -- ---- the loop that writes: one column of the values over the front of a lent slice
  module _ {B : Type 0} (column : A → B) (xs : List B) where
    pub record Written (X : List B) (i : ℕ) : Type 0 where
      pub written : X ≡ over (map column (passing i)) xs
      pub same : length X ≡ length xs

    pub write_none : Written xs from
    write_none = record { written = rw (places_none test from from (omega arith), over_none); same = refl }

    pub write_in : (X : List B) (count i : ℕ) (v : B) → test i ≡ true → Counted count i → v ≡ column (value i) → count < length xs → Written X i
        → Written (set X count v) (i + 1)
    write_in X count i v t c e h inv =
        record {
          written =
              rw (passing_in i c.started t, map-append)
              (store_at (map column (passing i)) xs X count v (column (value i)) inv.written (length-map (passing i) column ∙ sym c.counted) e h);
          same = simp length-set inv.same;
        }

    pub write_out : (X : List B) (i : ℕ) → test i ≡ false → from ≤ i → Written X i → Written X (i + 1)
    write_out X i t f inv = record { written = rw (places_out test from i f t) inv.written; same = inv.same }

    pub write_done : (X : List B) (i end : ℕ) → Written X i → i - from ≡ end - from → X ≡ over (map column (passing end)) xs
    unfolding places_where
    write_done X i end inv e = rw (← e) inv.written
