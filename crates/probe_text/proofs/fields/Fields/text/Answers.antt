-- A text may be cut before and after a space.
use Rattle.std.proofs.Common.{◌≡◌, IsUtf8, ℕ, ◌<◌, List, get_or, length, subst, ap, ◌∙◌, arith, eqb-true}
use Rattle.std.proofs.lemmas.List.Sums.{passes_at_first}
use Rattle.std.proofs.lemmas.Str.{IsCharBoundary-before_ascii, IsCharBoundary-after_ascii}
use Rattle.std.specs.List.{position_or_len}
use Rattle.probe_text.specs.Fields.{is_space}
use Rattle.probe_text.proofs.fields.Fields.text.Goals as goal

at_space : (xs : List ℕ) (i : ℕ) → i ≡ position_or_len is_space xs → i < length xs → get_or xs i 0 < 128
at_space xs i is within =
    let space = eqb-true _ _ (passes_at_first is_space xs 0 (subst (λ j. j < length xs) is within)) in
    let same = ap (λ j. get_or xs j 0) is ∙ space in omega (arith, same)

pub range_from-requires : goal.range_from-requires
range_from-requires c = λ _.
    let xs = c.in-Some.rest.now in
    let end = c.first_space-end in
    let is = end.ensures.value ∙ ap (position_or_len is_space) c.as_bytes.ensures.value in
    IsCharBoundary-after_ascii xs end.result (subst IsUtf8 c.as_bytes.ensures.value c.as_bytes.ensures.utf8) (omega arith) (at_space xs end.result is (omega arith))

pub range-requires-clause-end_boundary : goal.range-requires-clause-end_boundary
range-requires-clause-end_boundary c =
    let xs = c.in-Some.rest.now in
    let end = c.first_space-end in
    let is = end.ensures.value ∙ ap (position_or_len is_space) c.as_bytes.ensures.value in
    IsCharBoundary-before_ascii xs end.result (omega arith) (at_space xs end.result is (omega arith))
