use Rattle.std.proofs.Common.{sym, ap, ◌∙◌}
use Rattle.dsdl_parse.specs.Words.{words}
use Rattle.dsdl_parse.specs.Reading.{read_expression}
use Rattle.dsdl_parse.proofs.WholeReads.{not_whole}
use Rattle.dsdl_parse.proofs.whole.parse_expression.Goals as goal

pub returns-else-len-eq0-clause-refused : goal.returns-else-len-eq0-clause-refused
returns-else-len-eq0-clause-refused c e x d =
    not_whole 64 (words c.args.line.now c.args.tokens.now) c.expression.new.words c.in_ok-x.x
    (ap read_expression (sym c.new-words.ensures) ∙ c.in_ok-x.ensures.value)
    (λ h. c.if-len-eq0.false (c.len.ensures ∙ h))
    x
    d
