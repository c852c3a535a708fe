-- A tray that breaks off after its header: version 8, flat 1, two scans, all places 0. The place of event 1 is refused, and with the
-- 77 bytes of event 0 after the header it is answered.
use mathlib.Core.Path.{◌≡◌, refl}
use Prim.Native.Nat.{ℕ}
use mathlib.Core.List.{List, [], ◌∷◌, ◌++◌}
use lib.ListN.{replicate}
use Rattle.refusal.specs.Outcome.{ok, refused, ran_out}
use Rattle.parser.specs.Parser.{parse, repeat, counted}
use Rattle.parser.specs.Call.{outcome}
use Rattle.event_preamble.specs.Size.{size_for_version}
use Rattle.event_before_66.specs.Layout.{reaction, layout_before_66}
use Rattle.events.specs.Event.{layout as event_layout, event, event_end, event_place}
use Rattle.tray_header.specs.Header.{header, judged, read_header}
use Rattle.tray.specs.Scan.{header_with, event_of, next_event}

abbrev broken : List ℕ
broken =
    8 ∷ 0 ∷ 0 ∷ 0 ∷ 1 ∷ 0 ∷ 0 ∷ 0 ∷ 0 ∷ 0 ∷ 0 ∷ 0 ∷ 0 ∷ 0 ∷ 0 ∷ 0
    ∷ 2 ∷ 0 ∷ 0 ∷ 0 ∷ 0 ∷ 0 ∷ 0 ∷ 0 ∷ 0 ∷ 0 ∷ 0 ∷ 0 ∷ 0 ∷ 0 ∷ 0 ∷ 0 ∷ []

pub event_1_broken : event_of 4096 6 1 broken ≡ ran_out 3
unfolding event_of header_with event_place read_header outcome parse header judged event_layout event reaction layout_before_66 repeat counted size_for_version
event_1_broken = refl

pub event_1_longer : event_of 4096 6 1 (broken ++ replicate 77 0) ≡ ok 77
unfolding event_of header_with event_place read_header outcome parse header judged event_layout event reaction layout_before_66 repeat counted size_for_version
event_1_longer = refl

pub next_broken : next_event 4096 6 0 broken ≡ ran_out 3
unfolding next_event event_end read_header outcome parse header judged event_layout event reaction layout_before_66 repeat counted size_for_version
next_broken = refl

-- no such scan
pub event_2_none : event_of 4096 6 2 broken ≡ refused 7 []
unfolding event_of header_with event_place read_header outcome parse header judged
event_2_none = refl
