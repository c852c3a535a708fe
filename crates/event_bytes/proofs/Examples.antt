-- Writing an event at the request's limits, by computation: version 0, whose preamble has 41 bytes.
use mathlib.Core.Path.{◌≡◌, refl}
use Prim.Native.Nat.{ℕ}
use mathlib.Core.List.{List, [], ◌∷◌}
use lib.Ieee.{binary64, of_bits, to_bits}
use lib.ListN.{take, drop, replicate}
use Rattle.refusal.specs.Outcome.{ok, refused, on_ok}
use Rattle.layout.specs.Layout.{le_bytes}
use Rattle.codes.specs.Codes.{code_of, activation_of}
use Rattle.event_preamble.specs.Size.{size_for_version}
use Rattle.event_preamble.specs.Settings.{activation_at, settings}
use Rattle.event_window.specs.declared.Window.{Window}
use Rattle.event_window.specs.declared.Window.TheVariants.{Absent, Ends}
use Rattle.event_record.specs.Activation.{event_activation}
use Rattle.event_record.specs.declared.ScanEvent.{ScanEvent}
use Rattle.event_before_66.specs.Layout.{reaction, layout_before_66}
use Rattle.event_bytes.specs.Write.{write_if_fits, write_before_66}

abbrev preamble : List ℕ
preamble = replicate 41 0

-- the record of a preamble of zeros
abbrev record_of : ℕ → ℕ → Window → ℕ → ScanEvent
record_of reactions coefficients window bits =
    record {
      preamble_len = 41;
      reactions = reactions;
      coefficients = coefficients;
      window = window;
      low_mz = bits;
      high_mz = bits;
      preamble = settings preamble;
      activation = activation_of 0;
    }

abbrev at_zero : Window
at_zero = Ends (of_bits binary64 0) (of_bits binary64 0)

-- 10 for each thing that the layout cannot hold, though no slice is long enough; then 8
pub refusals : (write_before_66 66 (record_of 0 0 at_zero 0) preamble [] [] [] 0 ≡ refused 10 [])
    × (write_before_66 57 (record_of 0 0 at_zero 0) preamble [] [] [] 0 ≡ refused 10 [])
    × (write_before_66 0 (record_of 0 0 Absent 0) preamble [] [] [] 0 ≡ refused 10 [])
    × (write_before_66 0 (record_of 0 0 at_zero 0x8000_0000_0000_0000) preamble [] [] [] 0 ≡ refused 10 [])
    × (write_before_66 0 (record_of 0x1_0000_0000 0 at_zero 0) preamble [] [] [] 0 ≡ refused 10 [])
    × (write_before_66 0 (record_of 0 0xffff_ffff_ffff_ffff at_zero 0) preamble [] [] [] 0 ≡ refused 10 [])
    × (write_before_66 0 (record_of 0 0 at_zero 0) (1 ∷ 1 ∷ 1 ∷ 1 ∷ 1 ∷ drop 5 preamble) [] [] [] 0 ≡ refused 10 [])
    × (write_before_66 0 (record_of 0 0 at_zero 0) preamble [] [] [] 76 ≡ refused 8 [])
    × (write_before_66 0 (record_of 0 0 at_zero 0) (take 40 preamble) [] [] [] 77 ≡ refused 8 [])
    × (write_before_66 0 (record_of 0xffff_ffff 0 at_zero 0) preamble [] [] [] 77 ≡ refused 8 [])
unfolding write_before_66 write_if_fits settings activation_at event_activation activation_of code_of size_for_version layout_before_66 reaction le_bytes of_bits to_bits
refusals = (refl, refl, refl, refl, refl, refl, refl, refl, refl, refl)

-- a reaction, a window that is a signaling NaN, and a coefficient, after the preamble; what the slices hold beyond the counts is left out
pub bytes_0 : on_ok (drop 41) (write_before_66 0 (record_of 1 1 (Ends (of_bits binary64 0x7ff0_0000_0000_0001) (of_bits binary64 0x7ff0_0000_0000_0001)) 0x7ff0_0000_0000_0001)
    (replicate 42 0) (0x0102 ∷ 9 ∷ []) (3 ∷ []) (4 ∷ 9 ∷ []) 117)
    ≡ ok (1 ∷ 0 ∷ 0 ∷ 0
    ∷ 2 ∷ 1 ∷ 0 ∷ 0 ∷ 0 ∷ 0 ∷ 0 ∷ 0
    ∷ 0 ∷ 0 ∷ 0 ∷ 0 ∷ 0 ∷ 0 ∷ 0 ∷ 0
    ∷ 3 ∷ 0 ∷ 0 ∷ 0 ∷ 0 ∷ 0 ∷ 0 ∷ 0
    ∷ 0 ∷ 0 ∷ 0 ∷ 0 ∷ 0 ∷ 0 ∷ 0 ∷ 0
    ∷ 0 ∷ 0 ∷ 0 ∷ 0
    ∷ 1 ∷ 0 ∷ 0 ∷ 0 ∷ 0 ∷ 0 ∷ 240 ∷ 127
    ∷ 1 ∷ 0 ∷ 0 ∷ 0 ∷ 0 ∷ 0 ∷ 240 ∷ 127
    ∷ 1 ∷ 0 ∷ 0 ∷ 0
    ∷ 4 ∷ 0 ∷ 0 ∷ 0 ∷ 0 ∷ 0 ∷ 0 ∷ 0
    ∷ 0 ∷ 0 ∷ 0 ∷ 0 ∷ 0 ∷ 0 ∷ 0 ∷ 0
    ∷ [])
unfolding write_before_66 write_if_fits settings activation_at event_activation activation_of code_of size_for_version layout_before_66 reaction le_bytes of_bits to_bits
bytes_0 = refl
