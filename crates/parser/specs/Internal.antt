-- Parsers that take the same number of bytes whatever these are, and their value. No public promise cites it.
use Rattle.std.specs.Prelude.{ℕ, ◌+◌, ◌-◌, List, T, leb, eqb}
use Rattle.std.proofs.Math.Dec.{when}
use Rattle.parser.specs.Parser.{Parser, done, read, ahead, seek, bytes}

-- p takes n bytes. At a layout written out and a numeral this computes to a function of the bytes into `Unit`:
-- λ _ _ _. tt, with a `_` for each read, proves it
abbrev pub Sized : {A : Type 0} → ℕ → Parser A → Type 0
Sized n (done a) = T (eqb n 0)
Sized n (read m k) = (bs : List ℕ) → when (leb m n) (Sized (n - m) (k bs))
Sized n (ahead m p) = when (leb m n) (Sized n p)
Sized n (seek place p) = ⊥

-- the value of p at `at + off`, where all its bytes are there
abbrev pub value : {A : Type 0} → Parser A → List ℕ → ℕ → ℕ → A
value (done a) s at off = a
value (read n k) s at off = value (k (bytes s (at + off) n)) s at (off + n)
value (ahead n p) s at off = value p s at off
value (seek place p) s at off = value p s place 0
