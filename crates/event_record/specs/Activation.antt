-- The activation of an event (`ScanEvent::activation` and `has_supplemental_reaction` of scan_event.rs), from its preamble and
-- the bits of its reactions' precursors.
use Rattle.std.specs.Prelude.{ℕ, Bool, true, false, ◌&&◌, List, leb, eqb, length}
use Rattle.std.specs.Float.{binary64}
use Rattle.std.specs.Float.Ieee.{of_bits, lt}
use Rattle.lists.specs.Filter.{filter}
use Rattle.codes.specs.declared.Activation.{Activation}
use Rattle.codes.specs.declared.Activation.TheVariants.{None, HCD, CID, ETD, EThcD, Unknown}
use Rattle.codes.specs.declared.analyzer.Analyzer.TheVariants.{FTMS}
use Rattle.codes.specs.declared.ms_power.MsPower.TheVariants.{Ms2}
use Rattle.codes.specs.Enumerators.{analyzer_code, ms_power_code}
use Rattle.event_preamble.specs.Settings.{byte, activation_at}
use Rattle.float_bits.specs.Numbers.{zero_f}

-- a precursor above 0.0
abbrev pub above : ℕ → Bool
above bits = lt zero_f (of_bits binary64 bits)

-- how many reactions have one
unfoldable pub with_precursor : List ℕ → ℕ
with_precursor precursors = length (filter above precursors)

-- an MS2 event of the Orbitrap (FTMS) with two or more reactions of which exactly one has a precursor
abbrev pub supplemental : List ℕ → List ℕ → Bool
supplemental preamble precursors =
    eqb (byte preamble 6) (ms_power_code Ms2) && eqb (byte preamble 40) (analyzer_code FTMS) && leb 2 (length precursors) && eqb (with_precursor precursors) 1

abbrev pub supplemented : Activation → Bool → Activation
supplemented ETD true = EThcD
supplemented ETD false = ETD
supplemented None b = None
supplemented HCD b = HCD
supplemented CID b = CID
supplemented EThcD b = EThcD
supplemented (Unknown byte) b = Unknown byte

unfoldable pub event_activation : List ℕ → List ℕ → Activation
event_activation preamble precursors = supplemented (activation_at preamble) (supplemental preamble precursors)
