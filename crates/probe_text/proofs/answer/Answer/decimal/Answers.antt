-- Text, and digits after it.
use Rattle.std.proofs.Common.{arith}
use Rattle.probe_text.proofs.Digits.{text_after_decimal}
use Rattle.probe_text.proofs.answer.Answer.decimal.Goals as goal

pub from_utf8_unchecked-requires : goal.from_utf8_unchecked-requires
from_utf8_unchecked-requires c =
    text_after_decimal c.take-bytes.result.items c.put_decimal.new.bytes.items c.take-bytes.ensures.text c.args.n (omega arith) c.in_ok-put_decimal.ensures
