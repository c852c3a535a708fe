-- Codes and activations that are tested as the same are equal.
use Rattle.std.specs.Prelude.{Option}
use Rattle.std.proofs.Common.{rules, tests}
use Rattle.std.proofs.Math.Bool.{and-true}
use Rattle.std.specs.Option.{option_eq}
use mathlib.Core.Path.{◌≡◌, refl}
use Prim.Native.Nat.{ℕ}
use mathlib.Core.Bool.{Bool, true, beq}
use lib.Dec.{eqb}
use borrow.Author.Tests.{eqb-true, eq-eqb}
use Rattle.lists.proofs.Cases.{and_true}
use Rattle.codes.specs.contracts.ActivationPartialEq.TheImpl as of_activation
use Rattle.event_preamble.specs.contracts.ScanEventPreamblePartialEq.TheImpl as of_preamble
use Rattle.codes.specs.declared.Activation.{Activation}
use Rattle.event_preamble.specs.declared.ScanEventPreamble.{ScanEventPreamble}
use Rattle.event_bytes.specs.Codes.{code_number, activation_number, same_code, same_activation, same_flag, same_codes}

code_same : (a b : Option ℕ) → same_code a b ≡ true → a ≡ b
code_same a b h = search (rules, tests)

pub activation_same : (a b : Activation) → same_activation a b ≡ true → a ≡ b
activation_same a b h = search (rules, tests)

flag_same : (a b : Bool) → same_flag a b ≡ true → a ≡ b
flag_same a b h = search (rules, tests)

pub codes_same : (a b : ScanEventPreamble) → same_codes a b ≡ true → a ≡ b
codes_same a b h =
    let h₁ = and_true (same_code a.polarity b.polarity) _ h in
    let h₂ = and_true (same_code a.scan_mode b.scan_mode) _ h₁.1 in
    let h₃ = and_true (same_code a.ms_power b.ms_power) _ h₂.1 in
    let h₄ = and_true (same_code a.scan_type b.scan_type) _ h₃.1 in
    let h₅ = and_true (same_flag a.dependent b.dependent) _ h₄.1 in
    let h₆ = and_true (same_flag a.dia b.dia) _ h₅.1 in
    let h₇ = and_true (same_code a.ionization b.ionization) _ h₆.1 in
    let h₈ = and_true (same_activation a.activation b.activation) _ h₇.1 in
    let h₉ = and_true (eqb a.activation_byte b.activation_byte) _ h₈.1 in
    let h₁₀ = and_true (same_flag a.wideband b.wideband) _ h₉.1 in
    let h₁₁ = and_true (same_code a.analyzer b.analyzer) true h₁₀.1 in
    fields (code_same _ _ h₁.0) (code_same _ _ h₂.0) (code_same _ _ h₃.0) (code_same _ _ h₄.0) (flag_same _ _ h₅.0) (flag_same _ _ h₆.0)
    (code_same _ _ h₇.0) (activation_same _ _ h₈.0) (eqb-true _ _ h₉.0) (flag_same _ _ h₁₀.0) (code_same _ _ h₁₁.0)
  where
    fields : {p q r s i z p' q' r' s' i' z' : Option ℕ} {d v w d' v' w' : Bool} {x x' : Activation} {y y' : ℕ} → p ≡ p' → q ≡ q' → r ≡ r' → s ≡ s' → d ≡ d' → v ≡ v' → i ≡ i' → x ≡ x' → y ≡ y' → w ≡ w' → z ≡ z'
        → ◌≡◌ {A = ScanEventPreamble}
        (record { polarity = p; scan_mode = q; ms_power = r; scan_type = s; dependent = d; dia = v; ionization = i; activation = x; activation_byte = y; wideband = w; analyzer = z })
        (record { polarity = p'; scan_mode = q'; ms_power = r'; scan_type = s'; dependent = d'; dia = v'; ionization = i'; activation = x'; activation_byte = y'; wideband = w'; analyzer = z' })
    fields a b c d e f g h i j k = rw (a, b, c, d, e, f, g, h, i, j, k)

-- and a value is tested as the same as itself
code_itself : (a : Option ℕ) → same_code a a ≡ true
code_itself a = eq-eqb (code_number a) (code_number a) refl

pub activation_itself : (a : Activation) → same_activation a a ≡ true
activation_itself a = eq-eqb (activation_number a) (activation_number a) refl

flag_itself : (a : Bool) → same_flag a a ≡ true
flag_itself a = search (rules, tests)

pub codes_themselves : (a : ScanEventPreamble) → same_codes a a ≡ true
codes_themselves a =
    rw (
      code_itself a.polarity,
      code_itself a.scan_mode,
      code_itself a.ms_power,
      code_itself a.scan_type,
      flag_itself a.dependent,
      flag_itself a.dia,
      code_itself a.ionization,
      activation_itself a.activation,
      eq-eqb a.activation_byte a.activation_byte refl,
      flag_itself a.wideband,
      code_itself a.analyzer,
    )

-- what `==` computes is this test
code_eq : (a b : Option ℕ) → option_eq eqb a b ≡ same_code a b
code_eq a b = search (rules, tests)

flag_eq : (a b : Bool) → beq a b ≡ same_flag a b
flag_eq a b = search (rules, tests)

activation_eq : (a b : Activation) → of_activation.ghosts.eq a b ≡ same_activation a b
activation_eq a b = search (rules, tests)

pub codes_eq : (a b : ScanEventPreamble) → of_preamble.ghosts.eq a b ≡ same_codes a b
codes_eq a b =
    rw (
      code_eq a.polarity b.polarity,
      code_eq a.scan_mode b.scan_mode,
      code_eq a.ms_power b.ms_power,
      code_eq a.scan_type b.scan_type,
      flag_eq a.dependent b.dependent,
      flag_eq a.dia b.dia,
      code_eq a.ionization b.ionization,
      activation_eq a.activation b.activation,
      flag_eq a.wideband b.wideband,
      code_eq a.analyzer b.analyzer,
    )
    (rw and-true)
