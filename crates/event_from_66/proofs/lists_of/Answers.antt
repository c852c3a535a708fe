-- `event_from_66::lists_of` meets its contract.
use native.Mathlib.Omega.{arith}
use lib.ListN.{length}
use Rattle.event_coefficients.proofs.Offset.{word_most}
use Rattle.event_from_66.specs.Layout.{lists_from_66}
use Rattle.event_from_66.proofs.lists_of.Goals as goal

pub overflow_add-result : goal.overflow_add-result
overflow_add-result c =
    omega (arith, c.word_offset-word.ensures, word_most c.find_window-window.result.offset (length c.args.body.now) c.is_primary.result)

pub returns : goal.returns
unfolding lists_from_66
returns c =
    rw (c.coefficient_count.ensures, c.reactions_of.ensures, c.word_offset-word.ensures, c.is_primary.ensures, c.find_window-window.ensures)
