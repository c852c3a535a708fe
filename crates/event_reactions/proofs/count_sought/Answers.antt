-- `event_reactions::count_sought` meets its contract: each return is one of the sources.
use mathlib.Core.Path.{sym, ◌∙◌}
use native.Mathlib.Omega.{arith}
use Rattle.event_reactions.proofs.Sources.{records_fit, too_short, of_tribrid, of_counted, of_uncounted, of_neither}
use Rattle.event_reactions.proofs.count_sought.Goals as goal
use Rattle.event_reactions.proofs.count_sought.Goals.{else-count-eq0-via-then-count-eq0+else-has_uncounted, else-count-eq0-via-else-count-eq0}

pub returns-then-body-lt8 : goal.returns-then-body-lt8
returns-then-body-lt8 c = rw (too_short _ _ c.if-body-lt8.true)

pub count_kept-requires : goal.count_kept-requires
count_kept-requires c = (omega arith, rw c.record_count.ensures (records_fit _ _ _))

pub returns-then-tribrid : goal.returns-then-tribrid
returns-then-tribrid c =
    rw (of_tribrid _ c.if-body-lt8.false c.if-tribrid.true c.record_count.ensures) c.count_kept.ensures

pub count_kept-count-requires : goal.count_kept-count-requires
count_kept-count-requires c = (omega arith, rw c.record_count-2.ensures (records_fit _ _ _))

pub returns-then-has_uncounted : goal.returns-then-has_uncounted
returns-then-has_uncounted c =
    rw (of_uncounted _ c.if-body-lt8.false c.if-tribrid.false c.record_count-2.ensures (sym c.count_kept-count.ensures ∙ c.if-count-eq0.true) (sym c.has_uncounted.ensures ∙ c.if-has_uncounted.true))

pub returns-else-count-eq0 : goal.returns-else-count-eq0
returns-else-count-eq0 c =
    elim c.else-count-eq0.branch [
      | else-count-eq0-via-then-count-eq0+else-has_uncounted w ↦
          rw (of_neither _ c.if-body-lt8.false c.if-tribrid.false c.record_count-2.ensures (sym w.has_uncounted.ensures ∙ w.if-has_uncounted.false)) c.count_kept-count.ensures
      | else-count-eq0-via-else-count-eq0 w ↦
          rw (of_counted _ c.if-body-lt8.false c.if-tribrid.false c.record_count-2.ensures (λ z. w.if-count-eq0.false (c.count_kept-count.ensures ∙ z))) c.count_kept-count.ensures
    ]
