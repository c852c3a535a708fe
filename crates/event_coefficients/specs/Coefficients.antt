-- The calibration coefficients in a body of version 66 (`read_coefficients` and `np_off` of scan_event.rs).
use Rattle.std.specs.Prelude.{ℕ, ◌+◌, ◌-◌, ◌/◌, min, Bool, ◌&&◌, cond, List, leb, eqb}
use Rattle.parser.specs.Parser.{remaining, word_at}

-- the offset of the count word: 80 if the window is at 64; 24 if it is at 8, the body is 96 and the event primary; else
-- body - 64, which stops at 0. An absent window is at 0
unfoldable pub word_offset : ℕ → ℕ → Bool → ℕ
word_offset window size primary = cond (eqb window 64) 80 (cond (eqb window 8 && eqb size 96 && primary) 24 (size - 64))

-- the smaller of the stored count and the f64s that fit after it; none if the word doesn't fit
unfoldable pub coefficient_count : List ℕ → ℕ → ℕ
coefficient_count body offset = cond (leb 4 (remaining body offset)) (min (word_at body offset 4) (remaining body (offset + 4) / 8)) 0
