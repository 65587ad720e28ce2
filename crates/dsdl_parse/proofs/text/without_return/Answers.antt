use Rattle.std.proofs.Common.{sym, ap, ◌∷◌, ◌++◌, [], ◌∙◌}
use Rattle.std.proofs.lemmas.Bool.{ne_eqb}
use Rattle.dsdl_parse.specs.Lines.{without_return}
use Rattle.dsdl_parse.proofs.FirstLines.{returned, kept}
use Rattle.dsdl_parse.proofs.text.without_return.Goals as goal

pub returns-then-last-eq13 : goal.returns-then-last-eq13
returns-then-last-eq13 c =
    sym (ap without_return (c.in-Some.ensures.cases.0 ∙ ap (λ b. c.in-Some.front.now ++ b ∷ []) c.if-last-eq13.true) ∙ returned c.in-Some.front.now)

pub returns-else-last-eq13 : goal.returns-else-last-eq13
returns-else-last-eq13 c =
    let e = c.in-Some.ensures.cases.0 in
    sym (ap without_return e ∙ kept c.in-Some.front.now c.in-Some.last.now (ne_eqb c.in-Some.last.now 13 c.if-last-eq13.false) ∙ sym e)
