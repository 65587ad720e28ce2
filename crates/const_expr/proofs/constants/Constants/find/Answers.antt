use Rattle.std.proofs.Common.{◌≡◌, Ok, Err, Some, Bor, sym, ap, ◌∙◌, subst, List}
use Rattle.std.specs.Prelude.{MatchOption}
use Rattle.std.specs.List.{position_from}
use Rattle.std.specs.Str.{bytes_eq}
use Rattle.const_expr.specs.Member.{named_in}
use Rattle.const_expr.specs.declared.scope.NamedConst.{NamedConst}
use Rattle.const_expr.specs.declared.why.Why.TheVariants as why
use Rattle.const_expr.proofs.NameLemmas.{named_lent, named_missing}
use Rattle.const_expr.proofs.constants.Constants.find.Goals as goal

pub returns-in-Some-clause-found : goal.returns-in-Some-clause-found
returns-in-Some-clause-found c =
    let ks = c.self.inside.list.items in
    let name = c.args.name.now in
    let n = c.in-Some.place.now in
    let at : position_from (λ (k : NamedConst). bytes_eq k.name name) 0 ks ≡ Some n = sym (c.in-Some.ensures.value ∙ c.self.invariant name) in
    let same : c.deref.result.now ≡ ks = c.deref.ensures.value in
    subst (λ (l : List NamedConst). MatchOption c.get-in-Some.result (named_in l name ≡ Err (why.Unknown name)) (λ (k : Bor NamedConst). named_in l name ≡ Ok k.now.value)) (same ∙ c.self.view_is)
    (named_lent c.deref.result.now name n c.get-in-Some.result (ap (λ l. position_from (λ (k : NamedConst). bytes_eq k.name name) 0 l) same ∙ at) c.get-in-Some.ensures.lookup)

pub returns-in-None-clause-found : goal.returns-in-None-clause-found
returns-in-None-clause-found c =
    ap (λ ks. named_in ks c.args.name.now) (sym c.self.view_is)
    ∙ named_missing c.self.inside.list.items c.args.name.now (sym (c.in-None.ensures.value ∙ c.self.invariant c.args.name.now))
