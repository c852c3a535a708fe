-- All digits are put.
use Rattle.std.proofs.Common.{◌∙◌, ◌++◌, ap, sym, arith}
use Rattle.std.proofs.lemmas.Fmt.{decimal_digit}
use Rattle.std.proofs.lemmas.List.{take_all}
use Rattle.probe_text.proofs.Digits.{decimal_is}
use Rattle.probe_text.proofs.answer.put_decimal.Goals as goal

pub returns-then-n-lt10 : goal.returns-then-n-lt10
returns-then-n-lt10 c = c.in_ok-push.ensures.items ∙ ap (λ ds. c.args.bytes.now.items ++ ds) (sym (decimal_digit c.args.n c.if-n-lt10.true))

pub returns : goal.returns
returns c =
    let digits = c.decimal-count.ensures.digits ∙ decimal_is c.decimal-count.result c.args.n (omega arith) c.decimal-count.ensures.len in
    c.loop-digit.invariant ∙ ap (λ ds. c.args.bytes.now.items ++ ds) (take_all c.loop-digit.digit-index _ (omega (arith, c.loop-digit-test.false)) ∙ digits)
