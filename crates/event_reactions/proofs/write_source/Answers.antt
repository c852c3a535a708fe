use mathlib.Core.Path.{sym, ◌∙◌}
use native.Mathlib.Omega.{arith}
use Rattle.lists.proofs.Laws.{fitting_all}
use Rattle.lists.specs.Left.{firsts, seconds}
use Rattle.event_reactions.specs.Reactions.{reactions_in, in_source}
use Rattle.event_reactions.proofs.Count.{length-precursors, length-energies}
use Rattle.event_reactions.proofs.Sources.{every_precursor, every_energy}
use Rattle.event_reactions.proofs.write_source.Goals as goal

pub write_sought-requires : goal.write_sought-requires
unfolding in_source
write_sought-requires c =
    let pre = c.requires in
    record { body_in_bounds = rw c.in-Sought.is at pre.source_in_bounds; body_in_bounds_2 = rw c.in-Sought.is at pre.source_in_bounds_2 }

pub returns-in-Every : goal.returns-in-Every
returns-in-Every c =
    let is = c.in-Every.is in
    let a = c.args in record { precursors_after = rw is (every_precursor a.body.now _ _ _ _ c.copy.ensures.stands); energies_after = rw is (every_energy a.body.now _ _ _ _ (omega arith) c.saturating_add.ensures c.copy-in-Every.ensures.stands) }

pub returns-in-Sought : goal.returns-in-Sought
unfolding in_source
returns-in-Sought c =
    let rs = reactions_in c.in-Sought.tribrid c.args.body.now in
    let is = c.in-Sought.is in record { precursors_after = rw is (c.write_sought.ensures.precursors_after ∙ sym (fitting_all (firsts rs) _ (rw length-precursors (rw is at c.requires.source_in_bounds)))); energies_after = rw is (c.write_sought.ensures.energies_after ∙ sym (fitting_all (seconds rs) _ (rw length-energies (rw is at c.requires.source_in_bounds_2)))) }
