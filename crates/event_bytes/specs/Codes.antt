-- When two records of a preamble's codes, and two activations, are the same.
use Rattle.std.specs.Prelude.{ℕ, suc, ◌+◌, Bool, not, cond, [], ◌∷◌, eqb, Some, None, Option}
use Rattle.lists.specs.Filter.{all}
use Rattle.codes.specs.declared.Activation.{Activation}
use Rattle.codes.specs.declared.Activation.TheVariants as activation
use Rattle.event_preamble.specs.declared.ScanEventPreamble.{ScanEventPreamble}

-- numbers that tell codes and activations apart
abbrev pub code_number : Option ℕ → ℕ
code_number None = 0
code_number (Some c) = suc c

abbrev pub activation_number : Activation → ℕ
activation_number activation.None = 0
activation_number activation.HCD = 1
activation_number activation.CID = 2
activation_number activation.ETD = 3
activation_number activation.EThcD = 4
activation_number (activation.Unknown byte) = byte + 5

abbrev pub same_code : Option ℕ → Option ℕ → Bool
same_code a b = eqb (code_number a) (code_number b)

abbrev pub same_activation : Activation → Activation → Bool
same_activation a b = eqb (activation_number a) (activation_number b)

abbrev pub same_flag : Bool → Bool → Bool
same_flag a b = cond a b (not b)

-- all that a preamble gives
abbrev pub same_codes : ScanEventPreamble → ScanEventPreamble → Bool
same_codes a b =
    all
    (same_code a.polarity b.polarity
    ∷ same_code a.scan_mode b.scan_mode
    ∷ same_code a.ms_power b.ms_power
    ∷ same_code a.scan_type b.scan_type
    ∷ same_flag a.dependent b.dependent
    ∷ same_flag a.dia b.dia
    ∷ same_code a.ionization b.ionization
    ∷ same_activation a.activation b.activation
    ∷ eqb a.activation_byte b.activation_byte
    ∷ same_flag a.wideband b.wideband
    ∷ same_code a.analyzer b.analyzer
    ∷ [])
