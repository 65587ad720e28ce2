use Rattle.std.proofs.Common.{if◌then◌else◌, arith, refl, ap, ◌∙◌}
use Rattle.dsdl_types.specs.Views.{flds}
use Rattle.dsdl_types.specs.declared.schema.Schema.TheVariants as schema
use Rattle.dsdl_resolve.specs.Opens.{said_of}
use Rattle.dsdl_resolve.proofs.open_section.OpenSection.close.Goals as goal

pub greatest-requires : goal.greatest-requires
greatest-requires c = record { variants = c.requires.ready.within.variants; end = omega (arith, c.requires.ready.within.end); nodes = omega (arith, c.requires.ready.within.nodes) }

pub returns-clause-schema : goal.returns-clause-schema
returns-clause-schema c = λ constants.
    let section = c.args.self in
    c.composite.ensures
    ∙ ap (λ b. if section.before.totals.union then schema.Union b else schema.Struct b)
    (c.in_ok-body.ensures (said_of section constants) refl (c.greatest.ensures section.before.totals.union (flds section.fields) c.requires.ready.totals))
