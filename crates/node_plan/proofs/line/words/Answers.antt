use Rattle.std.proofs.Common.{◌≡◌, ◌∙◌, ◌∷◌, ap, subst, sym}
use Rattle.std.specs.Prelude.{IfOk}
use Rattle.node_plan.specs.declared.line.Said.{Said}
use Rattle.node_plan.specs.Line.{said_of_words}
use Rattle.node_plan.proofs.PartsLemmas.{said_of_words-many}
use Rattle.node_plan.proofs.line.words.Goals as goal

pub returns-in-Some-cut-4-clause-value : goal.returns-in-Some-cut-4-clause-value
returns-in-Some-cut-4-clause-value c =
    let a = c.in-Some.word.now in
    let b = c.in-Some-cut.second.now in
    let d = c.in-Some-cut-2.third.now in
    let e = c.in-Some-cut-3.fourth.now in
    let f = c.in-Some-cut-4.fifth.now in
    let words = ap (said_of_words c.args.names.now c.args.is_two) (c.in-Some.ensures.parts
    ∙ ap (λ t. a ∷ t) (c.in-Some-cut.ensures.parts
    ∙ ap (λ t. b ∷ t) (c.in-Some-cut-2.ensures.parts
    ∙ ap (λ t. d ∷ t) (c.in-Some-cut-3.ensures.parts
    ∙ ap (λ t. e ∷ t) c.in-Some-cut-4.ensures.parts)))) in
    subst (λ (says : Said). IfOk c.many_words.result (λ said. said ≡ says))
    (sym (words ∙ said_of_words-many c.args.names.now c.args.is_two a b d e f c.in-Some-cut-4.behind.now)) c.many_words.ensures.value
