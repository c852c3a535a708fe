-- One test of the lent slices, and then each list is written.
use mathlib.Core.Path.{◌≡◌, sym, ◌∙◌}
use mathlib.Core.List.{[], ◌∷◌}
use Rattle.lists.specs.Left.{fits, lengths}
use Rattle.packet_record.specs.Packet.{contents_at, lists_of}
use Rattle.packet_record.proofs.Writing.{tested, packet_refused, packet_written}
use Rattle.packet_record.proofs.write_packet.Goals as goal
use Rattle.packet_record.proofs.write_packet.Goals.{After-fits}

-- what the tests say
test : (c : After-fits) → let a = c.args in
    c.fits.result ≡ fits (lengths (lists_of (contents_at a.run.now a.places))) (lengths (a.mz.now ∷ a.abundance.now ∷ a.descriptors.now ∷ a.resolutions.now ∷ []))
test c =
    let a = c.args in
    tested a.places a.run.now a.mz.now a.abundance.now a.descriptors.now a.resolutions.now c.fits.ensures

pub write_lists-requires : goal.write_lists-requires
write_lists-requires c = sym (test (goal.at.write_lists-requires c).After-fits) ∙ c.if-fits.true

pub returns-then-fits : goal.returns-then-fits
returns-then-fits c =
    packet_written _ _ _ _ _ _ (sym (test (goal.at.returns-then-fits c).After-fits) ∙ c.if-fits.true) c.record_of.ensures c.write_lists.ensures

pub returns : goal.returns
returns c = packet_refused _ _ _ _ _ _ (sym (test (goal.at.returns c).After-fits) ∙ c.if-fits.false)
