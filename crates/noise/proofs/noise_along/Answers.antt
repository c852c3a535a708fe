-- `noise::noise_along` meets its contract. The invariant: what is left to work out is `answer_from` at the k-th node.
use mathlib.Core.Path.{◌≡◌, sym, ◌∙◌}
use Prim.Native.Nat.{◌/◌}
use native.Mathlib.Omega.{arith}
use lib.ListN.{length}
use borrow.Author.Rules.{rules}
use Rattle.noise.proofs.Walk.{no_nodes, next_reaches, next_passed, all_passed}
use Rattle.noise.proofs.noise_along.Goals as goal

pub returns-then-count-eq0 : goal.returns-then-count-eq0
returns-then-count-eq0 c = no_nodes _ _ _ c.if-count-eq0.true

pub returns-then-x-hi : goal.returns-then-x-hi
returns-then-x-hi c =
    let hi = c.node_at-hi.ensures in
    c.noise_between.ensures
    ∙ rw (c.node_at-lo.ensures, hi) (sym (c.loop-k.invariant.2 ∙ next_reaches _ _ _ c.loop-k.k c.loop-k-test.true (rw hi at c.if-x-hi.true)))

pub loop-k-preserved : goal.loop-k-preserved
loop-k-preserved c =
    let hi = c.node_at-hi.ensures in
    (search rules, search rules, c.loop-k.invariant.2 ∙ next_passed _ _ _ c.loop-k.k c.loop-k-test.true (rw hi at c.if-x-hi.false))

pub returns : goal.returns
returns c =
    let end : c.loop-k.k ≡ length c.args.nodes.now / 12 = omega arith in
    let n = length c.args.nodes.now / 12 in
    c.stored_at-2.ensures ∙ sym (rw end at c.loop-k.invariant.2 ∙ all_passed c.args.x c.args.nodes.now n n (omega arith))
