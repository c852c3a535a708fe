-- The place is the first: no space stood before.
use Rattle.std.proofs.Common.{◌≡◌, ◌+◌, ◌-◌, ◌<◌, ◌≤◌, ℕ, false, List, length, get_or, drop, not, arith, sym, ap, ◌∙◌, eq-eqb}
use mathlib.Core.Logic.{⊎_elim}
use Rattle.std.proofs.lemmas.List.{get_or-drop, length-drop, take_all}
use Rattle.std.proofs.lemmas.List.Sums.{position_or_len_is, fails_before_first, passes_at_first, prefix_len-le-length}
use Rattle.lists.proofs.Cases.{le_or_lt}
use Rattle.std.specs.List.{position_or_len}
use Rattle.probe_text.specs.Fields.{is_space}
use Rattle.probe_text.proofs.fields.first_space.Goals as goal

pub returns-then-text-i-eq32-clause-value : goal.returns-then-text-i-eq32-clause-value
returns-then-text-i-eq32-clause-value c =
    sym (position_or_len_is is_space c.args.text.now c.loop-i.i 0 (omega arith) c.loop-i.invariant (λ h. eq-eqb _ _ c.if-text-i-eq32.true))

pub returns-then-near-lt-NEAR-clause-value : goal.returns-then-near-lt-NEAR-clause-value
returns-then-near-lt-NEAR-clause-value c =
    sym (position_or_len_is is_space c.args.text.now c.min-near.result 0 (omega arith) (λ k h. c.loop-i.invariant k (omega arith)) (λ h. absurd (omega arith)))

-- the first place after n that fail
beyond : (xs : List ℕ) (n : ℕ) → n ≤ length xs → ((k : ℕ) → k < n → is_space (get_or xs k 0) ≡ false) → position_or_len is_space xs ≡ n + position_or_len is_space (drop n xs)
beyond xs n within none =
    let rest = drop n xs in
    let place = position_or_len is_space rest in
    let long = length-drop n xs in
    let most : place ≤ length rest = prefix_len-le-length (λ b. not (is_space b)) rest in
    position_or_len_is is_space xs (n + place) 0 (omega (arith, long, most))
    (λ k less. ⊎_elim
    (λ (later : n ≤ k). let back : n + (k - n) ≡ k = omega arith in
    ap (λ j. is_space (get_or xs j 0)) (sym back) ∙ ap is_space (sym (get_or-drop n xs (k - n) 0)) ∙ fails_before_first is_space rest (k - n) 0 (omega arith))
    (λ (near : k < n). none k near)
    (le_or_lt n k))
    (λ here. ap is_space (sym (get_or-drop n xs place 0)) ∙ passes_at_first is_space rest 0 (omega (arith, long)))

pub returns-clause-value : goal.returns-clause-value
returns-clause-value c =
    let xs = c.args.text.now in
    let long = length-drop 16 xs in
    ap (λ n. 16 + n) (c.far_space.ensures.value ∙ ap (position_or_len is_space) (take_all (length xs - 16) (drop 16 xs) (omega (arith, long))))
    ∙ sym (beyond xs 16 (omega arith) (λ k less. c.loop-i.invariant k (omega arith)))
