-- What was shown is consumed through its first line feed.
use Rattle.std.proofs.Common.{◌≡◌, ◌+◌, [], ◌∷◌, ◌++◌, take, sym, ap, subst, ◌∙◌, arith}
use Rattle.std.proofs.lemmas.List.{take_more}
use Rattle.std.proofs.BufReadLemmas.{Consumes_shown}
use Rattle.std.specs.Io.BufRead.{FillKeeps}
use Rattle.std.specs.Io.KnownBytes.{Consumes}
use Rattle.probe.proofs.lines.held_line.Goals as goal

pub returns-clause-taken : goal.returns-clause-taken
returns-clause-taken g c = λ _.
    let shown = c.in-Ok.held.now in
    let n = c.in-Some.n in
    let line = c.in-Some.ensures in
    let items : c.extend_from_slice.new.self.items ≡ take n shown = c.in_ok-extend_from_slice.ensures.items ∙ ap (λ l. l ++ take n shown) c.clear.ensures.items in
    let through : take (n + 1) shown ≡ c.extend_from_slice.new.self.items ++ 10 ∷ [] =
    take_more shown n 0 line.within ∙ ap (λ byte. take n shown ++ byte ∷ []) line.line_feed ∙ ap (λ l. l ++ 10 ∷ []) (sym items) in
    let rested = c.fill_buf.follows.lender-at-none in
    let filled = subst (FillKeeps _ (g.R.Read.remaining rested) (g.R.BufRead.consumable_len rested)) c.in-Ok.is c.fill_buf.follows.holds-at-none in
    let consumed = Consumes_shown _ _ _ _ shown (n + 1) (omega (arith, line.within)) c.in-Ok.ensures.front c.in-Ok.ensures.end filled.0 filled.1 c.consume.ensures.bytes in
    subst (Consumes _ _) through consumed.0
