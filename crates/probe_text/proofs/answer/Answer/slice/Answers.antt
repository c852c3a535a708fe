-- Text, and digits after it.
use Rattle.probe_text.proofs.Digits.{text_after_elements}
use Rattle.probe_text.proofs.answer.Answer.slice.Goals as goal

pub from_utf8_unchecked-requires : goal.from_utf8_unchecked-requires
from_utf8_unchecked-requires g c =
    text_after_elements c.take-bytes.result.items c.put_elements.new.bytes.items c.take-bytes.ensures.text g.T.Element.DIGITS g.T.Element.bits_of c.args.lent.now c.in_ok-put_elements.ensures
