-- How many channels a scan has, and that it goes by them.
use mathlib.Core.Path.{◌≡◌, refl, ap, sym, ◌∙◌}
use Prim.Native.Nat.{ℕ, ◌+◌, ◌*◌, ◌≤◌, ◌<◌}
use native.Mathlib.Nat.{add-zero, zero-mul}
use native.Mathlib.Omega.{arith}
use mathlib.Core.Bool.{Bool, true, false, cond}
use mathlib.Core.List.{List, []}
use lib.Dec.{leb, eqb}
use borrow.Author.Tests.{leb-true, le-leb, lt-leb, eq-eqb, ne_eqb}
use Rattle.refusal.specs.Outcome.{Outcome, ok, ran_out, and_then}
use Rattle.refusal.proofs.Outcomes.{ok_not_refused}
use Rattle.parser.specs.Parser.{Parser, done, parsed, bytes, little_endian, remaining, within, parse, word, skip, ◌>>◌}
use Rattle.parser.specs.Call.{onward, outcome, single}
use Rattle.parser.specs.Internal.{Sized, value}
use Rattle.parser.proofs.Fixed.{parse_sized, parse_stage, sized_word}
use Rattle.srm_scan.specs.Scan.{scan}
use Rattle.srm_scan.specs.Internal.{channels}
use Rattle.srm_scan.proofs.Tables.{skipped_sized}

module _ (size : ℕ) (s : List ℕ) (at : ℕ) where
  pub no_count : remaining s at < 4 → ran_out 4 ≡ channels size s at
  unfolding channels
  no_count t = rw (lt-leb _ _ t)

  module _ (t : 4 ≤ remaining s at) (n : ℕ) (e : n ≡ little_endian (bytes s at 4)) where
    pub no_channels : n ≡ 0 → ok 0 ≡ channels size s at
    unfolding channels
    no_channels z = rw (le-leb _ _ t, ← e, eq-eqb n 0 z)

    module _ (some : n ≡ 0 → ⊥) where
      pub short_table : remaining s (at + 4) < 28 + n * size → ran_out 4 ≡ channels size s at
      unfolding channels
      short_table u = rw (le-leb _ _ t, ← e, ne_eqb n 0 some, lt-leb _ _ u)

      pub whole_table : 28 + n * size ≤ remaining s (at + 4) → ok n ≡ channels size s at
      unfolding channels
      whole_table u = rw (le-leb _ _ t, ← e, ne_eqb n 0 some, le-leb _ _ u)

-- the channels that were counted are there
pub channels_there : (size : ℕ) (s : List ℕ) (at n : ℕ) → ok n ≡ channels size s at → (4 ≤ remaining s at) × (n * size ≤ remaining s at)
unfolding channels
channels_there size s at n =
    let m = little_endian (bytes s at 4) in
    go (leb 4 (remaining s at)) (eqb m 0) (leb (28 + m * size) (remaining s (at + 4))) (leb-true 4 (remaining s at)) (leb-true (28 + m * size) (remaining s (at + 4)))
  where
    go : (a b c : Bool) → (a ≡ true → 4 ≤ remaining s at) → (c ≡ true → 28 + little_endian (bytes s at 4) * size ≤ remaining s (at + 4))
        → ok n ≡ cond a (cond b (ok 0) (cond c (ok (little_endian (bytes s at 4))) (ran_out 4))) (ran_out 4) → (4 ≤ remaining s at) × (n * size ≤ remaining s at)
    go false b c f g e = ok_not_refused e
    go true true c f g e = let z : n ≡ 0 = cc in (f refl, rw (z, zero-mul size) (omega arith))
    go true false false f g e = ok_not_refused e
    go true false true f g e = let z : n ≡ little_endian (bytes s at 4) = cc in (f refl, rw z (omega (arith, g refl)))

-- a scan is one test for its count and one for all that follows, for both tables
module _ {A : Type 0} (size : ℕ) (table : ℕ → Parser (List A)) (sized : (n : ℕ) → Sized (n * size) (table n)) (s : List ℕ) (at : ℕ) where
  after_by : (b : Bool) (n : ℕ)
      → parse (cond b (done []) (skip 28 >> table n)) s (at + 4)
      ≡ cond b (parsed [] (at + 4)) (within (leb (28 + n * size) (remaining s (at + 4))) (parsed (value (table n) s (at + 4) 28) (at + 4 + (28 + n * size))))
  unfolding parse
  after_by true n = refl
  after_by false n = parse_sized (28 + n * size) (skip 28 >> table n) (skipped_sized size table sized n) s (at + 4)

  parse_scan : parse (scan table) s at
      ≡ within (leb 4 (remaining s at))
      (cond (eqb (little_endian (bytes s at 4)) 0) (parsed [] (at + 4))
      (within (leb (28 + little_endian (bytes s at 4) * size) (remaining s (at + 4)))
      (parsed (value (table (little_endian (bytes s at 4))) s (at + 4) 28) (at + 4 + (28 + little_endian (bytes s at 4) * size)))))
  unfolding scan
  parse_scan =
      let place : at + 0 ≡ at = add-zero at in
      parse_stage 4 (word 4) (λ n. cond (eqb n 0) (done []) (skip 28 >> table n)) (sized_word 4) s at ∙ rw (place, after_by (eqb (little_endian (bytes s at 4)) 0) (little_endian (bytes s at 4)))

  module _ {B : Type 0} (list : ℕ → List A) (are : (n : ℕ) → value (table n) s (at + 4) 28 ≡ list n) (empty : list 0 ≡ []) (g : List A → Outcome B) where
    by_tests : (a b c : Bool) (n p q : ℕ)
        → onward 4 (within a (cond b (parsed [] p) (within c (parsed (list n) q)))) (λ v _. g v)
        ≡ and_then (cond a (cond b (ok 0) (cond c (ok n) (ran_out 4))) (ran_out 4)) (λ m. g (list m))
    by_tests false b c n p q = refl
    by_tests true true c n p q = ap g (sym empty)
    by_tests true false false n p q = refl
    by_tests true false true n p q = refl

    pub by_channels : outcome (single 4 at (scan table) (λ v _. g v)) s ≡ and_then (channels size s at) (λ n. g (list n))
    unfolding outcome channels
    by_channels =
        let n = little_endian (bytes s at 4) in
        rw (parse_scan, are n) (by_tests (leb 4 (remaining s at)) (eqb n 0) (leb (28 + n * size) (remaining s (at + 4))) n (at + 4) (at + 4 + (28 + n * size)))
