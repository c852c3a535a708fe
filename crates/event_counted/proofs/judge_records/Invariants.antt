-- `event_counted::judge_records` meets its contract. The invariant: the first i records are sound.
use mathlib.Core.Path.{◌≡◌}
use Rattle.refusal.specs.Outcome.{ok}
use Rattle.event_counted.specs.Layout.{judge_records}
use Rattle.event_counted.proofs.judge_records.Given as goal

abbrev pub invariant-loop-i : goal.invariant-loop-i
invariant-loop-i l = judge_records l.start l.body l.i ≡ ok tt
