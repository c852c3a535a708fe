-- The two digits of a byte.
use Rattle.std.proofs.Common.{◌≡◌, ◌∙◌, ◌++◌, ◌∷◌, [], ap, sym, arith}
use mathlib.Core.List.{append_assoc}
use Rattle.probe_text.specs.Answers.{hex_digits}
use Rattle.probe_text.proofs.Digits.{byte_is}
use Rattle.probe_text.proofs.answer.put_byte.Goals as goal

pub returns : goal.returns
returns c =
    let digits : c.glyph.result ∷ c.glyph-2.result ∷ [] ≡ hex_digits 2 c.args.byte = rw (c.glyph.ensures, c.glyph-2.ensures) (sym (byte_is c.args.byte (omega arith))) in
    c.in_ok-push-2.ensures.items ∙ ap (λ bs. bs ++ c.glyph-2.result ∷ []) c.in_ok-push.ensures.items
    ∙ append_assoc c.args.bytes.now.items (c.glyph.result ∷ []) (c.glyph-2.result ∷ []) ∙ ap (λ ds. c.args.bytes.now.items ++ ds) digits
