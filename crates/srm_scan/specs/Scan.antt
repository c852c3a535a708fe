-- An SRM scan of version 66 (`read_scan_srm_v66` and `read_scan_srm_v66_windows` of scan_data.rs).
use Rattle.std.specs.Prelude.{ℕ, ◌+◌, ◌*◌, false, cond, List, [], eqb, length}
use Rattle.refusal.specs.Outcome.{Outcome, ok}
use Rattle.lists.specs.Left.{pairs_if_fit}
use Rattle.parser.specs.Parser.{Parser, done, ◌>>=◌, ◌>>◌, word, skip, counted, saturating_add}
use Rattle.parser.specs.Call.{outcome, single}
use Rattle.peaks.specs.Peaks.{Peak, peak}

-- a scan: how many channels it has, 28 bytes that are passed over, and a table. Without channels nothing more is read
unfoldable pub scan : {A : Type 0} → (ℕ → Parser (List A)) → Parser (List A)
scan table = do
  n ← word 4
  cond (eqb n 0) (done []) (skip 28 >> table n)

-- the number of a channel, which is not handed out, and its peak
unfoldable pub channel : Parser Peak
channel = skip 4 >> peak false

-- the peaks of n channels, after the windows
unfoldable pub peaks : ℕ → Parser (List Peak)
peaks n = do
  skip (n * 8)
  counted n 12 channel

-- what `read_scan_srm_v66` answers, where slices of these capacities are lent. The scan starts where the data's place and the offset
-- lead, added without passing the largest u64
unfoldable pub read_srm_peaks : ℕ → ℕ → ℕ → ℕ → List ℕ → Outcome (List Peak)
read_srm_peaks mz abundance place offset run = outcome (single 4 (saturating_add place offset) (scan peaks) (λ ps _. pairs_if_fit mz abundance ps)) run

-- what `find_srm_peaks` answers: the place of the first m/z, and how many peaks there are. The next m/z stands 12 bytes after it
unfoldable pub find_srm_peaks : ℕ → ℕ → List ℕ → Outcome (ℕ × ℕ)
find_srm_peaks place offset run =
    let at = saturating_add place offset in
    outcome (single 4 at (scan peaks) (λ ps _. ok (at + 36 + length ps * 8, length ps))) run

-- a window of m/z: the bits of its lower and of its upper end, two f32
unfoldable pub window : Parser (ℕ × ℕ)
window = do
  low ← word 4
  high ← word 4
  done (low, high)

unfoldable pub windows : ℕ → Parser (List (ℕ × ℕ))
windows n = counted n 8 window

-- what `read_scan_srm_v66_windows` answers, where slices of these capacities are lent
unfoldable pub read_srm_windows : ℕ → ℕ → ℕ → ℕ → List ℕ → Outcome (List (ℕ × ℕ))
read_srm_windows low high place offset run = outcome (single 4 (saturating_add place offset) (scan windows) (λ ws _. pairs_if_fit low high ws)) run
