-- What reading a tray's header answers: one test decides whether its words are there.
use mathlib.Core.Path.{◌≡◌}
use Prim.Native.Nat.{ℕ, ◌≤◌, ◌<◌}
use mathlib.Core.List.{List}
use Rattle.refusal.specs.Outcome.{Outcome, ran_out}
use Rattle.parser.specs.Parser.{remaining}
use Rattle.parser.specs.Internal.{Sized, value}
use Rattle.parser.proofs.Records.{record_short, record_whole}
use Rattle.tray_header.specs.Header.{header, judged, read_header, read_tray_header}
use Rattle.tray_header.specs.declared.TrayHeader.{TrayHeader}

pub header_sized : Sized 32 header
unfolding header
header_sized = λ _ _ _ _ _ _ _ _. tt

module _ (s : List ℕ) where
  pub short_header : remaining s 0 < 32 → ran_out 1 ≡ read_tray_header s
  unfolding read_header
  short_header = record_short 1 0 header (λ h _. judged 4096 6 h) 32 header_sized s

  -- what becomes of the eight words
  pub whole_header : 32 ≤ remaining s 0 → {h : TrayHeader} → h ≡ value header s 0 0 → {o : Outcome TrayHeader} → o ≡ judged 4096 6 h → o ≡ read_tray_header s
  unfolding read_header
  whole_header t e i = record_whole 1 0 header (λ h _. judged 4096 6 h) 32 header_sized s t (rw (← e) i)
