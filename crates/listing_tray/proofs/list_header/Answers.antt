-- The header decides.
use mathlib.Core.Path.{sym, ap, ◌∙◌}
use Rattle.refusal.specs.Number.{outcome_of}
use Rattle.listing_tray.specs.Listing.{header_text}
use Rattle.listing_tray.proofs.Texts.{refusal_is}
use Rattle.listing_tray.proofs.list_header.Goals as goal

pub returns-in-Err : goal.returns-in-Err
returns-in-Err c = rw (refusal_is 0 c.in-Err.r ∙ ap (λ x. header_text (outcome_of x)) (sym c.in-Err.is)) at c.write_refusal_line.ensures
