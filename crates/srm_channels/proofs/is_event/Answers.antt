-- `srm_channels::is_event` meets its contract: the events are looked through as `any` does.
use lib.Dec.{eqb}
use Rattle.std.proofs.Common.{rules, tests}
use Rattle.std.proofs.lemmas.Iterator.{YieldsList-from_slice}
use Rattle.std.proofs.lemmas.Iterator.Search.{any_from_yields_List}
use Rattle.srm_channels.proofs.IsEvent.{is_any}
use Rattle.srm_channels.proofs.is_event.Goals as goal

pub returns : goal.returns
returns c =
    let a = c.args in
    rw is_any
    (any_from_yields_List (λ event. eqb event a.id) _ _ _ c.any.ensures.ran (YieldsList-from_slice a.events.now (cc)) (λ x b q k. search (rules, tests)))
