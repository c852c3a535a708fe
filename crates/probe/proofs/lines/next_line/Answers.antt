-- The line is the first piece of as many bytes as are taken.
use Rattle.std.proofs.Common.{◌≡◌, ◌≢◌, ◌+◌, ◌-◌, ◌≤◌, ℕ, List, [], ◌∷◌, ◌++◌, All, take, length, sym, subst, ap, ◌∙◌, rules, arith, append_assoc, Option, option_map, IfSome, None, Some, Ok, true}
use Rattle.std.proofs.lemmas.List.{length_push}
use Rattle.std.proofs.lemmas.Grind.{common_steps}
use Rattle.std.proofs.Math.Seq.{take-append-add}
use Rattle.std.proofs.BufReadLemmas.{take_through-append}
use Rattle.std.specs.Io.BufRead.{first_piece, take_through, strip_last}
use Rattle.std.specs.Io.KnownBytes.{Consumes, Keeps}
use Rattle.probe.proofs.lines.next_line.Goals as goal

without_last : (line : List ℕ) → strip_last 10 (line ++ 10 ∷ []) ≡ line
without_last line = grind (arith, common_steps)

-- a line that was consumed with its line feed
held : (old new : Option (List ℕ)) (line : List ℕ) → length line ≤ 65536 → All (λ byte. byte ≢ 10) line → Consumes old new (line ++ 10 ∷ [])
    → IfSome old (λ bytes. line ≡ first_piece 10 (take 65537 bytes))
held None new line short none taken = tt
held (Some bytes) None line short none taken = absurd taken
held (Some bytes) (Some rest) line short none taken =
    let past = 65536 - length line in
    let long : 65537 ≡ length (line ++ 10 ∷ []) + past = omega (arith, length_push line 10) in
    let front : take 65537 bytes ≡ line ++ 10 ∷ take past rest =
    ap (take 65537) taken ∙ ap (λ k. take k ((line ++ 10 ∷ []) ++ rest)) long ∙ take-append-add (line ++ 10 ∷ []) rest past ∙ append_assoc line (10 ∷ []) _ in
    sym (ap (first_piece 10) front ∙ ap (strip_last 10) (take_through-append 10 line (10 ∷ take past rest) none) ∙ without_last line)

pub returns-in-Some-clause-cut : goal.returns-in-Some-clause-cut
returns-in-Some-clause-cut g c = λ yes.
    let is : c.held_line.result ≡ Ok (Some true) = search rules in
    let line = c.held_line.ensures in
    held _ _ _ (line.longest is) (line.no_line_feed (search rules)) (line.taken is)

-- what is said of the first n bytes that were kept, said of all
cut : (known kept taken : Option (List ℕ)) (n : ℕ) (before line after : List ℕ) → Keeps known kept → taken ≡ option_map (take n) kept → n ≡ 65537 → before ≡ []
    → IfSome taken (λ bytes. line ≡ before ++ take_through 10 bytes) → after ≡ strip_last 10 line → IfSome known (λ bytes. after ≡ first_piece 10 (take 65537 bytes))
cut None kept taken n before line after keeps taken-is n-is before-is h last = tt
cut (Some xs) None taken n before line after keeps taken-is n-is before-is h last = absurd keeps
cut (Some xs) (Some ys) taken n before line after keeps taken-is n-is before-is h last =
    let piece = subst (λ o. IfSome o (λ bytes. line ≡ before ++ take_through 10 bytes)) taken-is h in
    last ∙ ap (strip_last 10) (rw (n-is, before-is, keeps) at piece)

pub returns-in_ok-skip_until-clause-cut : goal.returns-in_ok-skip_until-clause-cut
returns-in_ok-skip_until-clause-cut g c = λ _.
    cut _ _ _ _ _ _ _ (c.held_line.ensures.kept (search rules))
    (ap (λ r. option_map (take c.take.result.limit) (g.R.Read.remaining r.now)) c.take.ensures.inner)
    c.take.ensures.limit (c.held_line.ensures.empty (search rules)) c.in_ok-read_until.ensures.bytes c.strip.ensures.items

pub returns-else-len-gt-LONGEST-clause-cut : goal.returns-else-len-gt-LONGEST-clause-cut
returns-else-len-gt-LONGEST-clause-cut g c = λ _.
    cut _ _ _ _ _ _ _ (c.held_line.ensures.kept (search rules))
    (ap (λ r. option_map (take c.take.result.limit) (g.R.Read.remaining r.now)) c.take.ensures.inner)
    c.take.ensures.limit (c.held_line.ensures.empty (search rules)) c.in_ok-read_until.ensures.bytes c.strip.ensures.items
