-- `listing_lines::append_decimal` meets its contract, by recursion: each call writes one digit after those of the call within it.
use Rattle.listing_lines.proofs.Places.{append_then}
use Rattle.listing_lines.proofs.Digits.{decimal_more}
use Rattle.listing_lines.proofs.+append_decimal.Goals as goal

pub returns : goal.returns
returns t c =
    rw (decimal_more c.args.n c.if-n-lt10.false, ← c.digit-2.ensures) (append_then c.append_decimal-last.ensures c.append-2.ensures)
