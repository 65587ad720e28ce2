use Rattle.std.proofs.Common.{rules, ◌≡◌, Option, Some, None, sym, subst}
use Rattle.std.proofs.lemmas.Grind.{common_steps}
use Rattle.dsdl_types.specs.declared.definition.Definition.{Definition}
use Rattle.dsdl_types.specs.Finding.{definition_of, Finds}
use Rattle.dsdl_types.proofs.Finding.{finds}
use Rattle.dsdl_types.proofs.namespace.Namespace.find.Goals as goal

pub returns-then-has_id-clause-first : goal.returns-then-has_id-clause-first
returns-then-has_id-clause-first c =
    let value : Some c.definition-item.result ≡ definition_of c.args.self.now.definitions c.args.id.now = search (rules, common_steps) in
    subst (λ r. Finds c.args.self.now.definitions c.args.id.now r) (sym value) (finds c.args.self.now.definitions c.args.id.now)

pub returns-clause-first : goal.returns-clause-first
returns-clause-first c =
    let value : ◌≡◌ {A = Option Definition} None (definition_of c.args.self.now.definitions c.args.id.now) = search (rules, common_steps) in
    subst (λ r. Finds c.args.self.now.definitions c.args.id.now r) (sym value) (finds c.args.self.now.definitions c.args.id.now)
