-- How many bytes a parser asks for after the end of the bytes, part by part.
use Prim.Native.Nat.{ℕ, ◌+◌, ◌*◌, ◌^◌, ◌≤◌, ◌<◌}
use native.Mathlib.Nat.{le_refl}
use native.Mathlib.Omega.{arith}
use mathlib.Core.Bool.{Bool, true, false, cond}
use Rattle.parser.specs.Parser.{Parser, done, ahead, word, repeat, ◌>>=◌}
use Rattle.parser.specs.Internal.{Sized}
use Rattle.parser.proofs.Fixed.{sized_word}
use Rattle.parser.proofs.Completion.{Bounded, extent, ValueInvariant, invariant_word, invariant_any, invariant_bind, bounded_more, bounded_sized, extent_sized, bounded_bind, extent_bind_le, bounded_repeat, extent_repeat_le}

-- p asks for at most n bytes, also of zeros alone, and P holds of its values
pub record DemandBound {A : Type 0} (far n : ℕ) (P : A → Type 0) (p : Parser A) : Type 0 where
  pub bounded : Bounded far n p
  pub zeros : extent p ≤ n
  pub value_invariant : ValueInvariant P p

abbrev pub Any : {A : Type 0} → A → Type 0
Any a = Unit {0}

module _ {A : Type 0} (far : ℕ) where
  pub demand_sized : (n : ℕ) (p : Parser A) → Sized n p → DemandBound far n Any p
  demand_sized n p z = record { bounded = bounded_sized far n n p (le_refl n) z; zeros = omega (arith, extent_sized n p z); value_invariant = invariant_any p }

  -- with a fact that holds of every value
  pub demand_known : (n : ℕ) (p : Parser A) (P Q : A → Type 0) → DemandBound far n P p → ValueInvariant Q p → DemandBound far n Q p
  demand_known n p P Q a y = record { bounded = a.bounded; zeros = a.zeros; value_invariant = y }

  pub demand_more : (n most : ℕ) (p : Parser A) (P : A → Type 0) → n ≤ most → DemandBound far n P p → DemandBound far most P p
  demand_more n most p P h a = record { bounded = bounded_more far n most p h a.bounded; zeros = omega (arith, a.zeros); value_invariant = a.value_invariant }

  -- nothing, or p
  pub demand_cond : (n : ℕ) (b : Bool) (P : A → Type 0) (p q : Parser A) → DemandBound far n P p → DemandBound far n P q → DemandBound far n P (cond b p q)
  demand_cond n true P p q x y = x
  demand_cond n false P p q x y = y

  pub demand_done : (n : ℕ) (P : A → Type 0) (a : A) → P a → DemandBound far n P (done a)
  demand_done n P a h = record { bounded = tt; zeros = omega arith; value_invariant = h }

  pub demand_ahead : (n m : ℕ) (P : A → Type 0) (p : Parser A) → m ≤ n → DemandBound far n P p → DemandBound far n P (ahead m p)
  demand_ahead n m P p h a = record { bounded = (h, a.bounded); zeros = omega (arith, a.zeros); value_invariant = a.value_invariant }

  -- n records, of which each takes so many bytes of zeros
  pub demand_repeat : (more each n : ℕ) (p : Parser A) (P : A → Type 0) → DemandBound far more P p → extent p ≤ each → DemandBound far (more + n * each) Any (repeat n p)
  demand_repeat more each n p P a small =
      record {
        bounded = bounded_repeat p far more each a.bounded small n;
        zeros = omega (arith, extent_repeat_le p far more each a.bounded small n);
        value_invariant = invariant_any (repeat n p);
      }

pub demand_word : (far n : ℕ) → DemandBound far n (λ (v : ℕ). v < 256 ^ n) (word n)
demand_word far n = demand_known far n (word n) Any (λ (v : ℕ). v < 256 ^ n) (demand_sized far n (word n) (sized_word n)) (invariant_word n)

-- p, then what is made of its value
pub demand_bind : {A B : Type 0} (far n m : ℕ) (P : A → Type 0) (Q : B → Type 0) (f : A → Parser B) → ((a : A) → P a → DemandBound far m Q (f a))
    → (p : Parser A) → DemandBound far n P p → DemandBound far (n + m) Q (p >>= f)
demand_bind far n m P Q f h p a =
    record {
      bounded = bounded_bind P f far n m (λ v y. (h v y).zeros) (λ v y. bounded_more far m (n + m) (f v) (omega arith) (h v y).bounded) p a.value_invariant a.bounded;
      zeros = omega (arith, extent_bind_le P f far n m (λ v y. (h v y).zeros) p a.value_invariant, a.zeros);
      value_invariant = invariant_bind P Q f (λ v y. (h v y).value_invariant) p a.value_invariant;
    }
