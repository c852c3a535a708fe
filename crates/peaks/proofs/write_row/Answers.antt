-- The room is tested, and then each column is copied by a call of its own.
use mathlib.Core.Path.{sym, ap, ◌∙◌}
use native.Mathlib.Omega.{arith}
use Rattle.lists.specs.Written.{fitting}
use Rattle.lists.proofs.Left.{pairs_no_room, pairs_written}
use Rattle.peaks.proofs.Columns.{length-row, wide_firsts, narrow_firsts, wide_seconds, narrow_seconds}
use Rattle.peaks.proofs.write_row.Goals as goal

pub returns-then-wide : goal.returns-then-wide
returns-then-wide g c =
    let a = c.args in
    let w = g.W.Stored.value in
    let n = g.N.Stored.value in
    let f = g.A.Stored.value in
    let s = a.run.now in
    let room = sym c.fits.ensures ∙ c.if-fits.true in
    pairs_written _ (length-row w n f a.row s) _ _ room
    (c.copy.ensures.stands ∙ ap (λ l. fitting l a.firsts.now) (wide_firsts w n f a.row s c.if-wide.true))
    (c.copy-then-wide.ensures.stands ∙ ap (λ l. fitting l a.seconds.now) (wide_seconds w n f a.row s g.met.A.Stored.beyond (omega arith) c.if-wide.true c.saturating_add.ensures))

pub returns-else-wide : goal.returns-else-wide
returns-else-wide g c =
    let a = c.args in
    let w = g.W.Stored.value in
    let n = g.N.Stored.value in
    let f = g.A.Stored.value in
    let s = a.run.now in
    let room = sym c.fits.ensures ∙ c.if-fits.true in
    pairs_written _ (length-row w n f a.row s) _ _ room
    (c.copy-else-wide.ensures.stands ∙ ap (λ l. fitting l a.firsts.now) (narrow_firsts w n f a.row s c.if-wide.false))
    (c.copy-else-wide-2.ensures.stands ∙ ap (λ l. fitting l a.seconds.now) (narrow_seconds w n f a.row s g.met.A.Stored.beyond (omega arith) c.if-wide.false c.saturating_add-else-wide.ensures))

pub returns : goal.returns
returns g c =
    let a = c.args in
    pairs_no_room _ (length-row g.W.Stored.value g.N.Stored.value g.A.Stored.value a.row a.run.now) _ _ (sym c.fits.ensures ∙ c.if-fits.false)
