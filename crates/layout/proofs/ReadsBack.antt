-- What is written reads back: one law for every layout.
use mathlib.Core.Path.{◌≡◌, refl, ap, sym, ◌∙◌}
use Prim.Native.Nat.{ℕ, ◌+◌, ◌≤◌}
use native.Mathlib.Nat.{add-zero}
use native.Mathlib.Omega.{arith}
use mathlib.Core.List.{List, [], ◌∷◌, ◌++◌, append_assoc}
use lib.ListN.{length, drop, length-append, length-drop}
use lib.Seq.{take_at, drop_at, drop-drop}
use borrow.Author.Tests.{le-leb}
use Rattle.parser.specs.Parser.{Parser, parsed, parse, bytes, remaining, little_endian}
use Rattle.parser.specs.Parser as parser
use Rattle.parser.proofs.Prefix.{parse_bind}
use Rattle.parser.proofs.Walk.{parse_repeat}
use Rattle.layout.specs.Layout.{Layout, done, number, string, skipped, ahead, list, reads, le_bytes, concat, written}
use Rattle.layout.proofs.Numbers.{length-le_bytes, le-le_bytes}
use Rattle.layout.proofs.Conditions.{Every, Holds, Returns}

-- at the place `at` of s stands v, and then w
module _ (s : List ℕ) (at : ℕ) (v w : List ℕ) (n : ℕ) (size : length v ≡ n) (here : drop at s ≡ v ++ w) where
  there : n ≤ remaining s at
  there = omega (arith, sym (length-drop at s) ∙ ap length here ∙ length-append v w)

  first : bytes s at n ≡ v
  first = rw here (take_at v w n size)

  next : drop (at + n) s ≡ w
  next = sym (drop-drop n at s) ∙ rw here (drop_at v w n size)

-- the place after two strings
after : (at n : ℕ) (v w : List ℕ) → length v ≡ n → at + n + length w ≡ at + length (v ++ w)
after at n v w size = simp length-append (omega arith)

-- the records of a list
module _ {S : Type 0} (p : Parser S) (put : S → List ℕ) (Fits : S → Type 0) (s : List ℕ) where
  abbrev One : Type 0
  One = (x : S) (at : ℕ) (post : List ℕ) → Fits x → drop at s ≡ put x ++ post → parse p s at ≡ parsed x (at + length (put x))

  all_back : One → (xs : List S) (at : ℕ) (post : List ℕ) → Every Fits xs → drop at s ≡ concat put xs ++ post
      → parse (parser.repeat (length xs) p) s at ≡ parsed xs (at + length (concat put xs))
  unfolding parse parser.repeat
  all_back one [] at post h here = rw add-zero
  all_back one (x ∷ xs) at post h here =
      let start : drop at s ≡ put x ++ (concat put xs ++ post) = here ∙ append_assoc (put x) (concat put xs) post in
      let onward : drop (at + length (put x)) s ≡ concat put xs ++ post = next s at (put x) (concat put xs ++ post) (length (put x)) refl start in
      parse_repeat p (length xs) s at
      ∙ rw (one x at (concat put xs ++ post) h.0 start, all_back one xs (at + length (put x)) post h.1 onward, after at (length (put x)) (put x) (concat put xs) refl)

-- a record's bytes, wherever they stand in a run and whatever follows them
pub reads_back : {R A : Type 0} (l : Layout R A) (r : R) (a : A) (s : List ℕ) (at : ℕ) (post : List ℕ) → Holds l r → Returns l r a
    → drop at s ≡ written l r ++ post → parse (reads l) s at ≡ parsed a (at + length (written l r))
unfolding parse
reads_back (done b) r a s at post h e here = rw (e, add-zero)
reads_back (number n get k) r a s at post h e here =
    let v = le_bytes n (get r) in
    let w = written (k (get r)) r in
    let size : length v ≡ n = length-le_bytes n (get r) in
    let start : drop at s ≡ v ++ (w ++ post) = here ∙ append_assoc v w post in
    let value : little_endian v ≡ get r = le-le_bytes n (get r) h.0 in
    rw (le-leb n (remaining s at) (there s at v (w ++ post) n size start), first s at v (w ++ post) n size start, value)
    (reads_back (k (get r)) r a s (at + n) post h.1 e (next s at v (w ++ post) n size start) ∙ rw (after at n v w size))
reads_back (string n get k) r a s at post h e here =
    let v = get r in
    let w = written (k (get r)) r in
    let start : drop at s ≡ v ++ (w ++ post) = here ∙ append_assoc v w post in
    rw (le-leb n (remaining s at) (there s at v (w ++ post) n h.0 start), first s at v (w ++ post) n h.0 start)
    (reads_back (k (get r)) r a s (at + n) post h.1 e (next s at v (w ++ post) n h.0 start) ∙ rw (after at n v w h.0))
reads_back (skipped n l) r a s at post h e here =
    let v = le_bytes n 0 in
    let w = written l r in
    let size : length v ≡ n = length-le_bytes n 0 in
    let start : drop at s ≡ v ++ (w ++ post) = here ∙ append_assoc v w post in
    rw (le-leb n (remaining s at) (there s at v (w ++ post) n size start))
    (reads_back l r a s (at + n) post h e (next s at v (w ++ post) n size start) ∙ rw (after at n v w size))
reads_back (ahead n l) r a s at post h e here =
    let few = h.0 in
    let fits : n ≤ remaining s at = omega (arith, sym (length-drop at s) ∙ ap length here ∙ length-append (written l r) post) in
    rw (le-leb n (remaining s at) fits) (reads_back l r a s at post h.1 e here)
reads_back (list n l get k) r a s at post h e here =
    let v = concat (λ x. written l x) (get r) in
    let w = written (k (get r)) r in
    let start : drop at s ≡ v ++ (w ++ post) = here ∙ append_assoc v w post in
    let all : parse (parser.repeat n (reads l)) s at ≡ parsed (get r) (at + length v) =
    rw (← h.0) (all_back (reads l) (λ x. written l x) (λ x. Holds l x) s (λ x place more hx hh. reads_back l x x s place more hx (e.0 x) hh) (get r) at (w ++ post) h.1 start) in
    parse_bind (parser.repeat n (reads l)) (λ xs. reads (k xs)) s at
    ∙ rw all
    (reads_back (k (get r)) r a s (at + length v) post h.2 e.1 (next s at v (w ++ post) (length v) refl start) ∙ rw (after at (length v) v w refl))
