-- Text, and digits after it.
use Rattle.std.proofs.Common.{◌∙◌, ◌++◌, ◌∷◌, [], ap, decimal, arith}
use mathlib.Core.List.{append_assoc}
use Rattle.probe_text.proofs.Digits.{text_after_number}
use Rattle.probe_text.proofs.answer.Answer.field.Goals as goal

pub from_utf8_unchecked-requires : goal.from_utf8_unchecked-requires
from_utf8_unchecked-requires c =
    text_after_number c.take-bytes.result.items c.put_decimal.new.bytes.items c.take-bytes.ensures.text c.args.n (omega arith)
    (c.in_ok-put_decimal.ensures ∙ ap (λ bs. bs ++ decimal c.args.n) c.in_ok-push.ensures.items ∙ append_assoc c.take-bytes.result.items (32 ∷ []) (decimal c.args.n))
