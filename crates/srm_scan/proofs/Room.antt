-- The two columns of a list of windows, as they are copied.
use mathlib.Core.Path.{◌≡◌, ap, ◌∙◌}
use Prim.Native.Nat.{ℕ, ◌+◌, ◌*◌}
use native.Mathlib.Omega.{arith}
use mathlib.Core.List.{List}
use lib.ListN.{length}
use Rattle.lists.specs.Left.{firsts, seconds}
use Rattle.lists.specs.Written.{each, fitting}
use Rattle.lists.proofs.Laws.{each_same, map_each, length-each}
use Rattle.parser.specs.Parser.{bytes, little_endian}
use Rattle.srm_scan.specs.Internal.{windows_at}

module _ (s : List ℕ) (at n : ℕ) where
  pub length-windows : length (windows_at s at n) ≡ n
  unfolding windows_at
  length-windows = length-each _ n

  pub low_column : (l l' : List ℕ) → l' ≡ fitting (each (λ i. little_endian (bytes s (at + i * 8) 4)) n) l → l' ≡ fitting (firsts (windows_at s at n)) l
  unfolding windows_at
  low_column l l' e = e ∙ rw map_each

  pub high_column : (h h' : List ℕ) → h' ≡ fitting (each (λ i. little_endian (bytes s (at + 4 + i * 8) 4)) n) h → h' ≡ fitting (seconds (windows_at s at n)) h
  unfolding windows_at
  high_column h h' e =
      let place : (i : ℕ) → at + 4 + i * 8 ≡ at + i * 8 + 4 = λ i. omega arith in
      let same = each_same _ _ n (λ i. ap (λ (p : ℕ). little_endian (bytes s p 4)) (place i)) in
      e ∙ rw (map_each, same)
