-- `event_bytes::store_reactions` meets its contract. The invariant: the reactions that were yielded are stored, and the place is that of the next.
use mathlib.Core.Path.{◌∙◌}
use native.Mathlib.Omega.{arith}
use lib.ListN.{length, length-append}
use Rattle.std.specs.List.{zip}
use Rattle.std.proofs.lemmas.Slice.Zip.{zip_turn, zip_end, length-zip, get_or-zip}
use Rattle.layout.specs.Layout.{written}
use Rattle.writer.proofs.Loops.{storing_more, storing_all}
use Rattle.event_before_66.specs.Layout.{reaction}
use Rattle.event_bytes.proofs.Bytes.{reaction_size}
use Rattle.event_bytes.proofs.store_reactions.Goals as goal

pub loop-precursor-preserved : goal.loop-precursor-preserved
loop-precursor-preserved c =
    let a = c.args in
    let ps = a.precursors.now in
    let es = a.energies.now in
    let l = c.loop-precursor in
    let turn = zip_turn ps es l.yielded _ _ c.next.new.self _ (cc) (cc) l.yielded_by _ c.in-Some.is c.next.ensures.steps in
    let stored = storing_more (written reaction) 32 (zip ps es) a.out.now a.at reaction_size (omega arith) _ _ (length l.yielded) _ _ (0, 0) l.invariant
    (omega (arith, length-zip ps es, turn.0, turn.1))
    (c.store_reaction.ensures ∙ rw (turn.2 0, turn.3 0, get_or-zip ps es (length l.yielded) (0, 0) turn.0 turn.1))
    c.saturating_add-place.ensures in
    simp length-append stored

pub returns : goal.returns
returns c =
    let a = c.args in
    let l = c.loop-precursor in
    let all = zip_end a.precursors.now a.energies.now l.yielded _ _ c.next.new.self _ (cc) (cc) l.yielded_by c.in-None.is c.next.ensures.steps in
    storing_all _ _ _ _ _ l.invariant (omega (arith, length-zip a.precursors.now a.energies.now, all))
