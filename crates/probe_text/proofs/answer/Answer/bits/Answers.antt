-- Text, and digits after it.
use Rattle.probe_text.proofs.Digits.{text_after_field}
use Rattle.probe_text.proofs.answer.Answer.bits.Goals as goal

pub from_utf8_unchecked-requires : goal.from_utf8_unchecked-requires
from_utf8_unchecked-requires g c =
    text_after_field c.take-bytes.result.items c.put_element.new.bytes.items c.take-bytes.ensures.text g.T.Element.DIGITS (g.T.Element.bits_of c.args.x) c.in_ok-put_element.ensures
