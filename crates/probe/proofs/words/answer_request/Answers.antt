-- What is ASCII is UTF-8.
use Rattle.std.proofs.lemmas.Str.{IsUtf8-from_ascii}
use Rattle.probe.proofs.words.answer_request.Goals as goal

pub from_utf8_unchecked-line-requires : goal.from_utf8_unchecked-line-requires
from_utf8_unchecked-line-requires c = IsUtf8-from_ascii c.args.line.now c.if-not-is_ascii.ensures.cases
