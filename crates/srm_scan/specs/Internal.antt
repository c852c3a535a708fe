-- How many channels a scan has, and its windows by their places, for the private functions. No public promise cites it.
use Rattle.std.specs.Prelude.{ℕ, ◌+◌, ◌*◌, cond, List, leb, eqb}
use Rattle.refusal.specs.Outcome.{Outcome, ok, ran_out}
use Rattle.lists.specs.Written.{each}
use Rattle.parser.specs.Parser.{remaining, word_at}

-- how many channels the scan at a place has, where its table takes so many bytes for each
unfoldable pub channels : ℕ → List ℕ → ℕ → Outcome ℕ
channels size s at =
    let n = word_at s at 4 in
    cond (leb 4 (remaining s at))
    (cond (eqb n 0) (ok 0) (cond (leb (28 + n * size) (remaining s (at + 4))) (ok n) (ran_out 4)))
    (ran_out 4)

unfoldable pub windows_at : List ℕ → ℕ → ℕ → List (ℕ × ℕ)
windows_at s at n = each (λ i. (word_at s (at + i * 8) 4, word_at s (at + i * 8 + 4) 4)) n
