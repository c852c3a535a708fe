-- `event_bytes::write_held` meets its contract: one test of all five slices.
use mathlib.Core.Path.{sym, ◌∙◌}
use Rattle.event_bytes.proofs.Held.{event_written, event_no_room}
use Rattle.event_bytes.proofs.write_held.Goals as goal

pub returns-then-fits : goal.returns-then-fits
returns-then-fits c =
    let a = c.args in
    event_written a.version a.event a.preamble.now a.precursors.now a.energies.now a.coefficients.now a.out.now
    (sym c.fits.ensures ∙ c.if-fits.true) c.store_event.ensures

pub returns : goal.returns
returns c =
    let a = c.args in
    event_no_room a.version a.event a.preamble.now a.precursors.now a.energies.now a.coefficients.now a.out.now
    (sym c.fits.ensures ∙ c.if-fits.false)
