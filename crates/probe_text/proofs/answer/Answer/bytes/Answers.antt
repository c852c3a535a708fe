-- Text, and digits after it.
use Rattle.probe_text.proofs.Digits.{text_after_bytes}
use Rattle.probe_text.proofs.answer.Answer.bytes.Goals as goal

pub from_utf8_unchecked-requires : goal.from_utf8_unchecked-requires
from_utf8_unchecked-requires c =
    text_after_bytes c.take-bytes.result.items c.put_bytes.new.bytes.items c.take-bytes.ensures.text c.args.run.now c.in_ok-put_bytes.ensures
