-- What is said of a place by bytes that are there is the same for all longer bytes.
use mathlib.Core.Path.{◌≡◌}
use mathlib.Core.List.{List, ◌++◌}
use Prim.Native.Nat.{ℕ, ◌+◌, ◌≤◌}
use native.Mathlib.Omega.{arith}
use lib.ListN.{length}
use Rattle.parser.specs.Parser.{bytes, little_endian}
use Rattle.parser.proofs.Prefix.{bytes_append}

-- f goes by bytes from `before` bytes before a place up to `after` bytes after it
abbrev pub Local : {A : Type 0} → ℕ → ℕ → (List ℕ → ℕ → A) → Type 0
Local before beyond f = (s t : List ℕ) (i : ℕ) → before ≤ i → i + beyond ≤ length s → f (s ++ t) i ≡ f s i

-- a number that is there
pub le_there : (s t : List ℕ) (at n : ℕ) → at + n ≤ length s → little_endian (bytes (s ++ t) at n) ≡ little_endian (bytes s at n)
le_there s t at n h = rw (bytes_append s t at n (omega arith))
