use Rattle.std.proofs.Common.{◌≡◌, ◌∙◌, ◌∷◌, ◌++◌, List, ℕ, ap, subst, sym}
use Rattle.std.specs.Prelude.{OnOk}
use Rattle.node_plan.specs.Migrate.{migrated_words}
use Rattle.node_plan.proofs.MigratedParts.{migrated_words-many}
use Rattle.node_plan.proofs.migration.push_words.Goals as goal

pub returns-in-Some-cut : goal.returns-in-Some-cut
returns-in-Some-cut c =
    let a = c.in-Some.word.now in
    let words = ap (migrated_words c.args.numbers.now c.args.line.now) (c.in-Some.ensures.parts ∙ ap (λ t. a ∷ t) c.in-Some-cut.ensures.parts) in
    subst (λ (t : List ℕ). OnOk c.extend-in-Some-cut.result (c.extend-in-Some-cut.new.self ≡ c.args.made.now ++ t))
    (sym (words ∙ migrated_words-many c.args.numbers.now c.args.line.now a c.in-Some-cut.field-0.0.now c.in-Some-cut.field-0.1.now)) c.extend-in-Some-cut.ensures.ok
