-- The header of a tray (document 01, "Tray"): eight words.
use Rattle.std.specs.Prelude.{ℕ, cond, List, [], leb}
use Rattle.refusal.specs.Outcome.{Outcome, ok, refused}
use Rattle.parser.specs.Parser.{Parser, done, ◌>>=◌, word}
use Rattle.parser.specs.Call.{outcome, single}
use Rattle.tray_header.specs.declared.TrayHeader.{TrayHeader}

unfoldable pub header : Parser TrayHeader
header = do
  version ← word 4
  flat ← word 4
  primary ← word 4
  dependent ← word 4
  scans ← word 4
  index ← word 4
  events ← word 4
  place ← word 4
  done (record {
    version = version;
    flat = flat;
    primary = primary;
    dependent = dependent;
    scans = scans;
    index = index;
    events = events;
    «data» = place;
  })

-- a flat word that is not 0 or 1 is refusal 5; more scans than the limit are a refusal of the caller's number
unfoldable pub judged : ℕ → ℕ → TrayHeader → Outcome TrayHeader
judged limit number h = cond (leb h.flat 1) (cond (leb h.scans limit) (ok h) (refused number [])) (refused 5 [])

-- the header, part 1, where at most `limit` scans are taken
unfoldable pub read_header : ℕ → ℕ → List ℕ → Outcome TrayHeader
read_header limit number tray = outcome (single 1 0 header (λ h _. judged limit number h)) tray

-- what `read_tray_header` answers: at most 4,096 scans, or refusal 6
abbrev pub read_tray_header : List ℕ → Outcome TrayHeader
read_tray_header = read_header 4096 6
