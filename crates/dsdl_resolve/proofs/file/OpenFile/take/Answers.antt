use Rattle.std.proofs.Common.{◌∙◌, sym, subst, refl}
use Rattle.const_expr.specs.declared.scope.Scope.{Scope}
use Rattle.dsdl_types.specs.Definitions.{IsNamespace}
use Rattle.dsdl_resolve.specs.Place.{last_section}
use Rattle.dsdl_resolve.specs.Values.{said_by, scope_at}
use Rattle.dsdl_resolve.proofs.Filing as filing
use Rattle.dsdl_resolve.proofs.file.OpenFile.take.Goals as goal

pub returns-in-Ok-clause-stepped : goal.returns-in-Ok-clause-stepped
returns-in-Ok-clause-stepped c = λ S front h there spelled line.
    filing.split_step S c.args.path.now front c.args.statement.now c.args.behind.now c.args.self.now c.split.new.self c.args.scope.now.constants c.split.new.scope.constants (sym c.is_split.ensures ∙ c.if-is_split.true) h
    (λ f. c.in-Ok.ensures.split S front f (subst (λ (t : Scope). IsNamespace t.namespace) there c.requires.scope.types)) c.in-Ok.ensures.prints

pub returns-clause-stepped : goal.returns-clause-stepped
returns-clause-stepped c = λ S front h there spelled line.
    let taken = c.in-Ok-take.ensures.taken S front c.args.behind.now h.section there spelled in
    filing.stepped S c.args.path.now front c.args.statement.now c.args.behind.now c.args.self.now _ c.take.new.scope.constants c.in-Ok-take.values c.in_ok-print.print c.args.line
    (sym c.is_split.ensures ∙ c.if-is_split.false) taken refl h.request line (c.in_ok-print.ensures (scope_at S (said_by S (last_section front)) c.args.statement.now) taken.worth) c.in_ok-push_some.ensures
