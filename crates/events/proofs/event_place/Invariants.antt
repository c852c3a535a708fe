-- `events::event_place` meets its contract: a turn passes one event (`Passed`).
use Rattle.events.proofs.Ends.{Passed}
use Rattle.events.proofs.event_place.Given as goal

abbrev pub invariant-loop : goal.invariant-loop
invariant-loop l = Passed l.version l.body_primary l.body_dependent l.start l.k l.run l.counter l.at
