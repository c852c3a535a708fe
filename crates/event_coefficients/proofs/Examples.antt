-- Document 01's example, by computation: a body of 96 whose word at 24 holds 2^32 - 1 has 8 coefficients. And the offsets of the
-- word: a tribrid body of 152 finds its window at 64, so its word at 80; a tribrid body of 96 at 8, yet its word at 32.
use mathlib.Core.Path.{◌≡◌, refl}
use Prim.Native.Nat.{ℕ}
use mathlib.Core.Bool.{true, false}
use mathlib.Core.List.{List, [], ◌∷◌, ◌++◌}
use lib.ListN.{replicate}
use Rattle.event_coefficients.specs.Coefficients.{word_offset, coefficient_count}

body : List ℕ
body = replicate 24 0 ++ (255 ∷ 255 ∷ 255 ∷ 255 ∷ []) ++ replicate 68 0

all_that_fit : coefficient_count body 24 ≡ 8
unfolding coefficient_count body
all_that_fit = refl

window_at_64 : word_offset 64 152 false ≡ 80
unfolding word_offset
window_at_64 = refl

primary_96 : word_offset 8 96 true ≡ 24
unfolding word_offset
primary_96 = refl

dependent_96 : word_offset 8 96 false ≡ 32
unfolding word_offset
dependent_96 = refl

no_window : word_offset 0 40 true ≡ 0
unfolding word_offset
no_window = refl
