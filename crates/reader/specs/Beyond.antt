-- After the run's end a number is 0, at every place.
use mathlib.Core.Path.{◌≡◌, sym, ◌∙◌}
use Prim.Native.Nat.{ℕ, ◌≤◌}
use mathlib.Core.List.{List}
use lib.ListN.{length, drop_of_length-le}
use lib.Seq.{take-nil}
use Rattle.parser.specs.Parser.{word_at}

none_at : (s : List ℕ) (p n : ℕ) → length s ≤ p → word_at s p n ≡ 0
none_at s p n h = rw (drop_of_length-le s h, take-nil n)

pub no_words : (s : List ℕ) (p q n : ℕ) → length s ≤ p → length s ≤ q → word_at s p n ≡ word_at s q n
no_words s p q n a b = none_at s p n a ∙ sym (none_at s q n b)
