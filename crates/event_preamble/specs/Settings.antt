-- What the bytes of a preamble say (`ScanEventPreamble` of scan_event.rs). A preamble may have any length: a byte that it lacks
-- gives no code, and counts as 0 where the Rust says so.
use Rattle.std.specs.Prelude.{ℕ, suc, Bool, true, false, ◌&&◌, not, cond, List, leb, eqb, length, None, Option}
use Rattle.parser.specs.Parser.{word_at}
use Rattle.codes.specs.Codes.{code_of, activation_of}
use Rattle.codes.specs.declared.Family.{Family}
use Rattle.codes.specs.declared.Family.TheVariants.{Analyzer, Polarity, ScanMode, MsPower, ScanType, Ionization}
use Rattle.codes.specs.declared.Activation.{Activation}
use Rattle.codes.specs.declared.Activation.TheVariants as activation
use Rattle.event_preamble.specs.declared.ScanEventPreamble.{ScanEventPreamble}

-- `bytes.get(i)` with 0 for none: bytes after the end count as 0
abbrev pub byte : List ℕ → ℕ → ℕ
byte p i = word_at p i 1

-- the code of a family at byte i
abbrev pub code_at : Family → List ℕ → ℕ → Option ℕ
code_at f p i = cond (leb (suc i) (length p)) (code_of f (byte p i)) None

-- a flag is set where its byte is 1
abbrev pub is_set : List ℕ → ℕ → Bool
is_set p i = eqb (byte p i) 1

abbrev pub is_dependent : List ℕ → Bool
is_dependent p = is_set p 10

abbrev pub is_dia : List ℕ → Bool
is_dia p = leb 2 (byte p 6) && not (is_dependent p)

abbrev pub is_wideband : List ℕ → Bool
is_wideband p = is_set p 32

abbrev pub named : Activation → Bool
named activation.HCD = true
named activation.CID = true
named activation.None = false
named activation.ETD = false
named activation.EThcD = false
named (activation.Unknown b) = false

-- HCD or CID becomes ETD if the preamble is 136 long, byte 6 ≥ 2, byte 120 = 1
unfoldable pub activation_at : List ℕ → Activation
activation_at p =
    cond (eqb (length p) 136 && leb 2 (byte p 6) && named (activation_of (byte p 24)) && eqb (byte p 120) 1)
    activation.ETD
    (activation_of (byte p 24))

unfoldable pub settings : List ℕ → ScanEventPreamble
settings p =
    record {
      polarity = code_at Polarity p 4;
      scan_mode = code_at ScanMode p 5;
      ms_power = code_at MsPower p 6;
      scan_type = code_at ScanType p 7;
      dependent = is_dependent p;
      dia = is_dia p;
      ionization = code_at Ionization p 11;
      activation = activation_at p;
      activation_byte = byte p 24;
      wideband = is_wideband p;
      analyzer = code_at Analyzer p 40;
    }

-- an event is primary if byte 6 ≤ 1 and byte 10 ≠ 1
abbrev pub is_primary : List ℕ → Bool
is_primary p = leb (byte p 6) 1 && not (is_dependent p)
