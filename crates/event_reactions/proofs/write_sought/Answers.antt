-- Each return is one of the sources.
use mathlib.Core.Path.{◌≡◌, sym, ◌∙◌}
use native.Mathlib.Omega.{arith}
use Rattle.lists.specs.Written.{each}
use Rattle.lists.proofs.Laws.{over_none}
use Rattle.event_reactions.specs.Reactions.{kept, reactions_in}
use Rattle.event_reactions.proofs.Kept.{column_first}
use Rattle.event_reactions.proofs.Sources.{records_fit, too_short, of_tribrid, counted_within, of_counted, of_uncounted, of_neither}
use Rattle.parser.specs.Parser.{word_at}
use Rattle.event_reactions.proofs.write_sought.Goals as goal
use Rattle.event_reactions.proofs.write_sought.Goals.{else-count-eq0-via-then-count-eq0+else-has_uncounted, else-count-eq0-via-else-count-eq0}

pub returns-then-body-lt8 : goal.returns-then-body-lt8
returns-then-body-lt8 c =
    let a = c.args in
    let none = too_short a.tribrid a.body.now c.if-body-lt8.true in
    record { precursors_after = rw (none, over_none); energies_after = rw (none, over_none) }

pub write_kept-requires : goal.write_kept-requires
write_kept-requires c =
    let pre = c.requires in
    let is = of_tribrid _ c.if-body-lt8.false c.if-tribrid.true c.record_count.ensures in
    record { from_bound = (omega arith, rw c.record_count.ensures (records_fit _ _ _)); n_in_bounds = rw is at pre.body_in_bounds; n_in_bounds_2 = rw is at pre.body_in_bounds_2 }

pub returns-then-tribrid : goal.returns-then-tribrid
returns-then-tribrid c =
    let is = of_tribrid _ c.if-body-lt8.false c.if-tribrid.true c.record_count.ensures in
    record { precursors_after = rw is c.write_kept.ensures.precursors_after; energies_after = rw is c.write_kept.ensures.energies_after }

pub write_kept-count-requires : goal.write_kept-count-requires
write_kept-count-requires c =
    let pre = c.requires in
    let most = counted_within _ c.if-body-lt8.false c.if-tribrid.false c.record_count-2.ensures in
    record { from_bound = (omega arith, rw c.record_count-2.ensures (records_fit _ _ _)); n_in_bounds = omega (arith, most, pre.body_in_bounds); n_in_bounds_2 = omega (arith, most, pre.body_in_bounds_2) }

pub returns-then-has_uncounted : goal.returns-then-has_uncounted
unfolding each
returns-then-has_uncounted c =
    let body = c.args.body.now in
    let none = sym c.write_kept-count.ensures.value ∙ c.if-count-eq0.true in
    let is = of_uncounted body c.if-body-lt8.false c.if-tribrid.false c.record_count-2.ensures none (sym c.has_uncounted.ensures ∙ c.if-has_uncounted.true) in
    let rs = kept body 8 c.record_count-2.result in record { precursors_after = rw is (column_first (λ x. x.0) rs none (word_at body 4 8) _ c.write_kept-count.ensures.precursors_after c.copy.ensures.stands (rw is at c.requires.body_in_bounds)); energies_after = rw is (column_first (λ x. x.1) rs none (word_at body 20 8) _ c.write_kept-count.ensures.energies_after c.copy-then-has_uncounted.ensures.stands (rw is at c.requires.body_in_bounds_2)) }

pub returns-else-count-eq0 : goal.returns-else-count-eq0
returns-else-count-eq0 c =
    let done = c.write_kept-count.ensures in
    let found = kept c.args.body.now 8 c.record_count-2.result in
    let is : reactions_in c.args.tribrid c.args.body.now ≡ found =
    elim c.else-count-eq0.branch [
      | else-count-eq0-via-then-count-eq0+else-has_uncounted w ↦
          of_neither _ c.if-body-lt8.false c.if-tribrid.false c.record_count-2.ensures (sym w.has_uncounted.ensures ∙ w.if-has_uncounted.false)
      | else-count-eq0-via-else-count-eq0 w ↦
          of_counted _ c.if-body-lt8.false c.if-tribrid.false c.record_count-2.ensures (λ z. w.if-count-eq0.false (done.value ∙ z))
    ] in
    record { precursors_after = rw is done.precursors_after; energies_after = rw is done.energies_after }
