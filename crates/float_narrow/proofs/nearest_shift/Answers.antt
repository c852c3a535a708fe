-- `float_narrow::nearest_shift` meets its contract: 1 << s is 2 ^ s, and the three arms are the three answers of `compare`.
use mathlib.Core.Path.{◌≡◌, sym, ap, ◌∙◌, subst}
use Prim.Native.Nat.{ℕ, ◌+◌, ◌*◌, ◌%◌, ◌^◌, ◌≤◌, ◌<◌}
use native.Mathlib.Nat.{mod-le, div-le_self, one-mul}
use native.Mathlib.Omega.{arith}
use lib.Dec.{lit<}
use lib.Arith.{lt_of_le-ne}
use lib.Pow.{pow_pos, shl_exact}
use Rattle.float_bits.specs.Rounding.{nearest_half_even}
use Rattle.float_bits.proofs.Rounding.{even_below, even_tie, even_above}
use borrow.Author.Rules.{rules}
use Rattle.float_narrow.proofs.nearest_shift.Goals as goal

-- 1 << s, as the machine has it
abbrev unit : ℕ → ℕ
unit s = 1 * 2 ^ s % 2 ^ 64

unit_is : (s : ℕ) → s < 64 → unit s ≡ 2 ^ s
unit_is s h = shl_exact 1 s 64 (lit< tt) (room s h) ∙ one-mul (2 ^ s)
  where
    room : (k : ℕ) → k < 64 → 1 + k ≤ 64
    room k l = omega arith

unit_pos : (s : ℕ) → s < 64 → 0 < unit s
unit_pos s h = subst (λ (k : ℕ). 0 < k) (sym (unit_is s h)) (pow_pos s)

pub nonzero_div-kept : goal.nonzero_div-kept
nonzero_div-kept c = unit_pos c.args.s c.requires.s_bound

pub nonzero_rem-rest : goal.nonzero_rem-rest
nonzero_rem-rest c = unit_pos c.args.s c.requires.s_bound

pub overflow_mul-rest : goal.overflow_mul-rest
overflow_mul-rest c = let l = mod-le c.args.n (unit c.args.s) in search rules

pub overflow_add-result : goal.overflow_add-result
overflow_add-result c = let l = div-le_self c.args.n (unit c.args.s) in search rules

pub overflow_add-result-else-rest-unit-2 : goal.overflow_add-result-else-rest-unit-2
overflow_add-result-else-rest-unit-2 c = let l = div-le_self c.args.n (unit c.args.s) in search rules

pub returns-then-rest-unit : goal.returns-then-rest-unit
returns-then-rest-unit c = sym (even_below _ _ c.if-rest-unit.true) ∙ ap (nearest_half_even c.args.n) (unit_is c.args.s c.requires.s_bound)

pub returns-then-rest-unit-2 : goal.returns-then-rest-unit-2
returns-then-rest-unit-2 c = sym (even_tie _ _ c.if-rest-unit-2.true) ∙ ap (nearest_half_even c.args.n) (unit_is c.args.s c.requires.s_bound)

pub returns-else-rest-unit-2 : goal.returns-else-rest-unit-2
returns-else-rest-unit-2 c =
    let a = c.args in
    sym (even_above _ _ (lt_of_le-ne c.if-rest-unit.false (λ e. c.if-rest-unit-2.false (sym e)))) ∙ ap (nearest_half_even a.n) (unit_is a.s c.requires.s_bound)
