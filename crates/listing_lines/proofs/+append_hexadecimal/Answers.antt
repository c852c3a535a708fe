-- `listing_lines::append_hexadecimal` meets its contract, by recursion: each call writes one digit after those of the call within it.
use Rattle.std.proofs.Common.{arith}
use Rattle.listing_lines.proofs.Places.{append_none, append_then}
use Rattle.listing_lines.proofs.Digits.{hexadecimal_none, hexadecimal_more}
use Rattle.listing_lines.proofs.+append_hexadecimal.Goals as goal

pub returns-then-digits-eq0 : goal.returns-then-digits-eq0
returns-then-digits-eq0 t c = rw (hexadecimal_none c.args.digits c.args.n c.if-digits-eq0.true) (append_none c.args.at c.args.out.now)

pub returns : goal.returns
returns t c =
    rw (hexadecimal_more c.args.digits c.args.n (omega arith), ← c.digit.ensures) (append_then c.append_hexadecimal-last.ensures c.append.ensures)
