-- The text of an event and of its slices (docs/REQUESTS.md), after what the answer held.
use Rattle.std.specs.Prelude.{ℕ, List, ◌++◌, Option, Some, None, codes, decimal}
use Rattle.std.specs.Int.{from_bool}
use Rattle.std.specs.Float.{binary64}
use Rattle.std.specs.Float.Ieee.{to_bits}
use Rattle.codes.specs.declared.Activation.{Activation}
use Rattle.codes.specs.declared.Activation.TheVariants as activation
use Rattle.event_preamble.specs.declared.ScanEventPreamble.{ScanEventPreamble}
use Rattle.event_record.specs.declared.ScanEvent.{ScanEvent}
use Rattle.event_window.specs.declared.Window.{Window}
use Rattle.event_window.specs.declared.Window.TheVariants.{Absent, Ends}
use Rattle.probe_text.specs.Answers.{bits_field, elements, field}

abbrev pub code : Option ℕ → List ℕ
code None = codes " -"
code (Some c) = field c

abbrev pub with_activation : List ℕ → Activation → List ℕ
with_activation text activation.None = text ++ field 0
with_activation text activation.HCD = text ++ field 1
with_activation text activation.CID = text ++ field 2
with_activation text activation.ETD = text ++ field 3
with_activation text activation.EThcD = text ++ field 4
with_activation text (activation.Unknown byte) = (text ++ codes " 5:") ++ decimal byte

abbrev pub with_codes : List ℕ → ScanEventPreamble → List ℕ
with_codes text s =
    ((((((text ++ code s.polarity) ++ code s.scan_mode) ++ code s.ms_power) ++ code s.scan_type)
    ++ field (from_bool s.dependent)) ++ field (from_bool s.dia)) ++ code s.ionization

abbrev pub with_settings : List ℕ → ScanEventPreamble → List ℕ
with_settings text s =
    ((with_activation (with_codes text s) s.activation ++ field s.activation_byte) ++ field (from_bool s.wideband)) ++ code s.analyzer

-- whether there is a window, and its floats
abbrev pub with_window : List ℕ → Window → List ℕ
with_window text Absent = ((text ++ field 0) ++ bits_field 16 0) ++ bits_field 16 0
with_window text (Ends low high) = ((text ++ field 1) ++ bits_field 16 (to_bits binary64 low)) ++ bits_field 16 (to_bits binary64 high)

abbrev pub with_event : List ℕ → ScanEvent → ℕ → List ℕ
with_event text e next =
    let counts = ((text ++ field e.preamble_len) ++ field e.reactions) ++ field e.coefficients in
    let window = (with_window counts e.window ++ bits_field 16 e.low_mz) ++ bits_field 16 e.high_mz in
    with_activation (with_settings window e.preamble) e.activation ++ field next

abbrev pub slice : ℕ → List ℕ → List ℕ
slice width xs = codes " |" ++ elements width (λ x. x) xs

abbrev pub with_slices : List ℕ → List ℕ → List ℕ → List ℕ → List ℕ → List ℕ
with_slices text preamble precursors energies coefficients =
    (((text ++ slice 2 preamble) ++ slice 16 precursors) ++ slice 16 energies) ++ slice 16 coefficients
