-- A string's bytes are text.
use Rattle.std.proofs.Common.{sym, subst, IsUtf8}
use Rattle.std.proofs.lemmas.Str.{IsUtf8-string_bytes}
use Rattle.probe_text.proofs.answer.Answer.take.Goals as goal

pub returns-clause-text : goal.returns-clause-text
returns-clause-text c = subst (λ v. IsUtf8 v.items) (sym c.into_bytes.ensures.value) (IsUtf8-string_bytes c.replace.result)
