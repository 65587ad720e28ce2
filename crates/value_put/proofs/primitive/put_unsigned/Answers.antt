use Rattle.std.proofs.Common.{◌∙◌, ◌++◌, ap, sym}
use Rattle.std.proofs.lemmas.Fmt.{decimal_digit}
use Rattle.line_text.specs.Buffer.{text_of}
use Rattle.value_put.proofs.primitive.put_unsigned.Goals as goal

pub returns-then-number-lt10 : goal.returns-then-number-lt10
returns-then-number-lt10 c = record { text = c.put.ensures.text ∙ ap (λ d. text_of c.args.text.now ++ d) (sym (decimal_digit c.args.number c.if-number-lt10.true)) }
