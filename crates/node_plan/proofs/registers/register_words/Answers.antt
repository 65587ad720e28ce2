use Rattle.std.proofs.Common.{◌≡◌, ◌∙◌, ◌∷◌, List, ℕ, true, ap, rules}
use Rattle.std.specs.Prelude.{codes}
use Rattle.std.specs.Str.{bytes_eq}
use Rattle.node_plan.specs.Line.{register_in}
use Rattle.node_plan.proofs.PartsLemmas.{register_by, register_in-more}
use Rattle.node_plan.proofs.registers.register_words.Goals as goal

pub returns : goal.returns
returns c =
    let a : List ℕ = c.in-Some.word.now in
    let b : List ℕ = c.in-Some-cut.name.now in
    let d : List ℕ = c.in-Some-cut-2.access.now in
    let text : List ℕ = c.in-Some-cut-2.text.now in
    let is : bytes_eq c.in-Some.word.now (codes "register") ≡ true = search rules in
    ap register_in (c.in-Some.ensures.parts
    ∙ ap (λ t. a ∷ t) (c.in-Some-cut.ensures.parts
    ∙ ap (λ t. b ∷ t) c.in-Some-cut-2.ensures.parts))
    ∙ register_in-more a b d text
    ∙ ap (λ test. register_by test (record { name = b; access = d; text = text })) is
