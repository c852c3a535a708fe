-- `float_narrow::narrowed` meets its contract. `proofs/Narrowing.antt` says what the pattern that the code works out is read as.
use mathlib.Core.Path.{◌≡◌, sym, ap, ◌∙◌, subst}
use mathlib.Core.Bool.{true, false, cond}
use Prim.Native.Nat.{◌+◌, ◌%◌, ◌^◌, ◌≤◌}
use native.Mathlib.Nat.{zero-add}
use lib.Dec.{T, leb}
use lib.Ieee.{Float, binary32, binary64, of_bits, to_bits}
use borrow.Author.Tests.{le-leb, lt-leb}
use Rattle.float_bits.proofs.Patterns.{differs, equals_itself, zero_by_zero}
use Rattle.float_narrow.specs.Internal.{narrow_bits}
use Rattle.float_narrow.specs.Narrow.{narrow}
use Rattle.float_narrow.proofs.Ranges.{bits_most}
use Rattle.float_narrow.proofs.Narrowing.{pattern, read_back}
use borrow.Author.Rules.{rules}
use Rattle.float_narrow.proofs.narrowed.Goals as goal
use Rattle.float_narrow.proofs.narrowed.Goals.{After-narrow_bits-size}

abbrev x : After-narrow_bits-size → Float
x c = c.args.x

most : (c : After-narrow_bits-size) → c.narrow_bits-size.result ≤ 0x7f80_0000
most c = subst (λ k. k ≤ 0x7f80_0000) (sym c.narrow_bits-size.ensures) (bits_most (to_bits binary64 (x c) % 2 ^ 63))

result : (c : After-narrow_bits-size) → of_bits binary32 (pattern (to_bits binary64 (x c))) ≡ narrow (x c)
result c = read_back (x c) (subst T (sym c.well_formed.0.1) tt) (equals_itself (x c) c.if-x.false)

pub returns-then-x : goal.returns-then-x
unfolding narrow
returns-then-x c = zero_by_zero binary32 ∙ ap narrow (differs c.args.x c.if-x.true)

pub float_to_bits-bits : goal.float_to_bits-bits
float_to_bits-bits c = equals_itself c.args.x c.if-x.false

pub overflow_cast-size : goal.overflow_cast-size
overflow_cast-size c = let l = most (goal.at.overflow_cast-size c).After-narrow_bits-size in search rules

pub overflow_add-size : goal.overflow_add-size
overflow_add-size c = let l = most (goal.at.overflow_add-size c).After-narrow_bits-size in search rules

pub returns-then-bits-lt9223372036854775808 : goal.returns-then-bits-lt9223372036854775808
returns-then-bits-lt9223372036854775808 c =
    let b = to_bits binary64 (x (goal.at.returns-then-bits-lt9223372036854775808 c).After-narrow_bits-size) in
    let clear : leb (2 ^ 63) b ≡ false = lt-leb _ _ c.if-bits-lt9223372036854775808.true in
    c.f32_of_bits.ensures
    ∙ ap (of_bits binary32) (c.narrow_bits-size.ensures ∙ sym (zero-add _) ∙ ap (λ s. cond s (2 ^ 31) 0 + narrow_bits (b % 2 ^ 63)) (sym clear))
    ∙ result (goal.at.returns-then-bits-lt9223372036854775808 c).After-narrow_bits-size

pub returns-else-bits-lt9223372036854775808 : goal.returns-else-bits-lt9223372036854775808
returns-else-bits-lt9223372036854775808 c =
    let b = to_bits binary64 (x (goal.at.returns-else-bits-lt9223372036854775808 c).After-narrow_bits-size) in
    let set : leb (2 ^ 63) b ≡ true = le-leb _ _ c.if-bits-lt9223372036854775808.false in
    c.f32_of_bits-else-bits-lt9223372036854775808.ensures
    ∙ ap (of_bits binary32) (ap (λ k. 2 ^ 31 + k) c.narrow_bits-size.ensures ∙ ap (λ s. cond s (2 ^ 31) 0 + narrow_bits (b % 2 ^ 63)) (sym set))
    ∙ result (goal.at.returns-else-bits-lt9223372036854775808 c).After-narrow_bits-size
