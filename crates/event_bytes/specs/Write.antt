-- Writing a scan event below version 66 (document 02, L3): which records its layout holds, and the bytes of one.
use Rattle.std.specs.Prelude.{ℕ, ◌+◌, ◌*◌, ◌^◌, Bool, true, false, cond, List, [], ◌∷◌, leb, ltb, eqb, length, take, zip, Float}
use Rattle.std.specs.Float.{binary64}
use Rattle.std.specs.Float.Ieee.{of_bits, to_bits}
use Rattle.refusal.specs.Outcome.{Outcome}
use Rattle.lists.specs.Filter.{all}
use Rattle.lists.specs.Left.{if_fits, fits}
use Rattle.layout.specs.Layout.{written}
use Rattle.layout.specs.Write.{if_held}
use Rattle.event_preamble.specs.Size.{size_for_version}
use Rattle.event_preamble.specs.Settings.{settings}
use Rattle.event_window.specs.declared.Window.{Window}
use Rattle.event_window.specs.declared.Window.TheVariants.{Absent, Ends}
use Rattle.event_window.specs.declared.FoundWindow.{FoundWindow}
use Rattle.event_record.specs.Activation.{event_activation}
use Rattle.event_record.specs.Event.{Event}
use Rattle.event_record.specs.declared.ScanEvent.{ScanEvent}
use Rattle.event_before_66.specs.Layout.{layout_before_66}
use Rattle.event_bytes.specs.Codes.{same_codes, same_activation}

-- ---- what the layout holds
-- Codes are judged by whole lists. Where the slice lacks bytes of the preamble none is judged, and where it lacks precursors the
-- event's own activation is not: such a record gets 8, if nothing else gives 10
abbrev pub codes_given : ScanEvent → List ℕ → Bool
codes_given e preamble = cond (leb e.preamble_len (length preamble)) (same_codes e.preamble (settings (take e.preamble_len preamble))) true

abbrev pub activation_given : ScanEvent → List ℕ → List ℕ → Bool
activation_given e preamble precursors =
    cond (fits (e.preamble_len ∷ e.reactions ∷ []) (length preamble ∷ length precursors ∷ []))
    (same_activation e.activation (event_activation (take e.preamble_len preamble) (take e.reactions precursors)))
    true

-- one f64: there is one NaN, and zeros differ by their sign
abbrev pub same_float : Float → Float → Bool
same_float x y = eqb (to_bits binary64 x) (to_bits binary64 y)

-- the window's ends are the floats of these bits
abbrev pub window_given : Window → ℕ → ℕ → Bool
window_given Absent low high = false
window_given (Ends l h) low high = all (same_float l (of_bits binary64 low) ∷ same_float h (of_bits binary64 high) ∷ [])

abbrev pub held_before_66 : ℕ → ScanEvent → List ℕ → List ℕ → Bool
held_before_66 version e preamble precursors =
    all
    (ltb version 66
    ∷ eqb e.preamble_len (size_for_version version)
    ∷ codes_given e preamble
    ∷ activation_given e preamble precursors
    ∷ window_given e.window e.low_mz e.high_mz
    ∷ ltb e.reactions (2 ^ 32)
    ∷ ltb e.coefficients (2 ^ 32)
    ∷ [])

-- ---- what is written
-- the event of these lists: a reaction of each precursor and its energy
abbrev pub event_from : FoundWindow → List ℕ → List ℕ → List ℕ → List ℕ → Event
event_from window preamble precursors energies coefficients = record { preamble = preamble; reactions = zip precursors energies; window = window; coefficients = coefficients }

-- the record's window, at its offset after the reactions
abbrev pub window_in : ScanEvent → FoundWindow
window_in e = record { window = e.window; low = e.low_mz; high = e.high_mz; offset = e.reactions * 32 + 8 }

-- the event of a record and its slices: each list is the first elements of its slice, as many as the record counts
abbrev pub as_event : ScanEvent → List ℕ → List ℕ → List ℕ → List ℕ → Event
as_event e preamble precursors energies coefficients =
    event_from (window_in e) (take e.preamble_len preamble) (take e.reactions precursors) (take e.reactions energies) (take e.coefficients coefficients)

-- its bytes, into a slice of so many, or refusal 8 where one of the five slices is too short
unfoldable pub write_if_fits : ℕ → ScanEvent → List ℕ → List ℕ → List ℕ → List ℕ → ℕ → Outcome (List ℕ)
write_if_fits version e preamble precursors energies coefficients room =
    let bs = written (layout_before_66 version) (as_event e preamble precursors energies coefficients) in
    if_fits
    (fits (e.preamble_len ∷ e.reactions ∷ e.reactions ∷ e.coefficients ∷ length bs ∷ [])
    (length preamble ∷ length precursors ∷ length energies ∷ length coefficients ∷ room ∷ []))
    bs

-- what `write_before_66` writes: 10 comes first
unfoldable pub write_before_66 : ℕ → ScanEvent → List ℕ → List ℕ → List ℕ → List ℕ → ℕ → Outcome (List ℕ)
write_before_66 version e preamble precursors energies coefficients room =
    if_held (held_before_66 version e preamble precursors) (write_if_fits version e preamble precursors energies coefficients room)
