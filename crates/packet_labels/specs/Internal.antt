-- How many words of a stream there are for the peaks, for the private functions. No public promise cites it.
use Rattle.std.specs.Prelude.{ℕ, ◌+◌, Bool, ◌&&◌, cond, leb, eqb}

-- a stream of so many words has one for each of n peaks, after the others
abbrev pub one_each : ℕ → ℕ → ℕ → Bool
one_each n others size = leb 1 n && eqb size (others + n)

abbrev pub word_count : ℕ → ℕ → ℕ → ℕ
word_count n others size = cond (one_each n others size) n 0
