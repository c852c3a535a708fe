-- A stream is of one size, whether it has a word for each peak or not, and its words are read off at their places.
use mathlib.Core.Path.{◌≡◌, refl, ap, sym, subst, ◌∙◌}
use mathlib.Core.Logic.{⊎_elim}
use Prim.Native.Nat.{ℕ, ◌+◌, ◌*◌, ◌-◌, ◌/◌}
use native.Mathlib.Nat.{add-zero, add_assoc}
use native.Mathlib.Omega.{arith}
use mathlib.Core.Bool.{true, false}
use mathlib.Core.List.{List, []}
use lib.Dec.{leb, eqb}
use borrow.Author.Tests.{le-leb, eqb-true}
use Rattle.lists.specs.Written.{each}
use Rattle.lists.proofs.Cases.{bool_cases, and_true}
use Rattle.lists.proofs.Laws.{each_none, each_same}
use Rattle.parser.specs.Parser.{Parser, done, bytes, word, skip, counted, word_at, ◌>>=◌, ◌>>◌}
use Rattle.parser.specs.Internal.{Sized, value}
use Rattle.parser.proofs.Fixed.{sized_raw, sized_word, sized_bind, sized_cond, sized_counted, value_each}
use Rattle.packet_labels.specs.Labels.{words_each, triplets}
use Rattle.packet_labels.specs.Internal.{one_each, word_count}

-- what follows words that are skipped
abbrev none : Unit {0} → Parser (List ℕ)
none _ = done []

module _ (n others size : ℕ) where
  pub words_sized : Sized (size * 4) (words_each n others size)
  unfolding words_each counted
  words_sized =
      sized_cond (size * 4) (one_each n others size) (skip (others * 4) >> counted n 4 (word 4)) (skip (size * 4) >> done [])
      (λ t.
      let e : others * 4 + n * 4 ≡ size * 4 = omega (arith, eqb-true size (others + n) (and_true (leb 1 n) (eqb size (others + n)) t).1) in
      subst (λ (k : ℕ). Sized k (skip (others * 4) >> counted n 4 (word 4))) e
      (sized_bind (others * 4) (n * 4) (skip (others * 4)) (λ _. counted n 4 (word 4)) (sized_raw (others * 4)) (λ _. sized_counted 4 (word 4) (sized_word 4) n)))
      (λ _. subst (λ (k : ℕ). Sized k (skip (size * 4) >>= none)) (add-zero (size * 4)) (sized_bind (size * 4) 0 (skip (size * 4)) none (sized_raw (size * 4)) (λ _. tt)))

  pub words_value : (s : List ℕ) (at off : ℕ) {place : ℕ} → at + (off + others * 4) ≡ place
      → value (words_each n others size) s at off ≡ each (λ i. word_at s (place + i * 4) 4) (word_count n others size)
  unfolding words_each counted
  words_value s at off {place} e =
      ⊎_elim
      (λ (t : one_each n others size ≡ true).
      rw t
      (value_each 4 (word 4) (sized_word 4) n s at (off + others * 4)
      ∙ each_same _ _ n (λ i. ap (λ (p : ℕ). word_at s p 4) (sym (add_assoc at (off + others * 4) (i * 4)) ∙ ap (λ (p : ℕ). p + i * 4) e))))
      (λ (t : one_each n others size ≡ false). rw t (each_none (λ i. word_at s (place + i * 4) 4)))
      (bool_cases (one_each n others size))

-- the nodes and the words that are left over. The law is the same in whatever order they stand, so that an edit of the order fails at their value
pub triplets_sized : (size : ℕ) → Sized (size * 4) (triplets size)
unfolding triplets
triplets_sized size =
    let n = size / 3 * 12 in
    let m = (size - size / 3 * 3) * 4 in
    let a = le-leb n (size * 4) (omega arith) in
    let b = le-leb m (size * 4) (omega arith) in
    let c = le-leb m (size * 4 - n) (omega arith) in
    let d = le-leb n (size * 4 - m) (omega arith) in
    let e : size * 4 - n - m ≡ 0 = omega arith in
    let f : size * 4 - m - n ≡ 0 = omega arith in
    simp (a, b) (λ _. simp (c, d) (λ _. simp (e, f) tt))

pub triplets_value : (size : ℕ) (s : List ℕ) (at off : ℕ) → value (triplets size) s at off ≡ bytes s (at + off) (size / 3 * 12)
unfolding triplets
triplets_value size s at off = refl
