use Rattle.std.proofs.Common.{◌∙◌, ap, sym}
use Rattle.node_plan.specs.Migrate.{migrated_text, numbers_of}
use Rattle.node_plan.proofs.MigratedTexts.{migrated_answer}
use Rattle.node_plan.proofs.migration.migrate.Goals as goal

pub returns-clause-migrated : goal.returns-clause-migrated
returns-clause-migrated c = migrated_answer c.args.names.now c.args.text.now c.in_ok-numbers.numbers c.in_ok-migrated_text.field-0 c.in_ok-plan.plan
    c.in_ok-plan.ensures.sound c.in_ok-plan.ensures.plan (sym c.is_version_two.ensures ∙ c.if-is_version_two.false)
    (c.in_ok-numbers.ensures ∙ ap numbers_of c.as_slice.ensures.value)
    (c.in_ok-migrated_text.ensures ∙ ap (λ numbers. migrated_text numbers c.args.text.now) c.as_slice-2.ensures)
