use Rattle.std.proofs.Common.{◌≡◌, Some, sym, subst}
use Rattle.const_expr.specs.declared.scope.Scope.{Scope}
use Rattle.dsdl_types.specs.Definitions.{IsNamespace}
use Rattle.dsdl_resolve.specs.Additions.{IsBefore, IsJudged, IsStatementRefusal, name_of, with_addition}
use Rattle.dsdl_resolve.specs.Judged.{refusal_valued}
use Rattle.dsdl_resolve.specs.Opens.{said_of}
use Rattle.dsdl_resolve.specs.Place.{Place}
use Rattle.dsdl_resolve.specs.Said.{Said}
use Rattle.std.specs.Option.{option_copied}
use Rattle.dsdl_resolve.specs.Places.{ArePlacesIn}
use Rattle.dsdl_resolve.proofs.Opening as opening
use Rattle.dsdl_resolve.proofs.open_section.OpenSection.take.Goals as goal

pub judge-requires-clause-places : goal.judge-requires-clause-places
judge-requires-clause-places c = subst (λ (t : Scope). ArePlacesIn t c.args.places.now) (sym c.in-Ok.ensures.scope) c.requires.places

pub returns-in-Err-clause-taken : goal.returns-in-Err-clause-taken
returns-in-Err-clause-taken c = λ S front back h there spelled.
    opening.take_value_refused S front c.args.statement.now back c.args.self.now c.args.scope.now.constants c.args.scope.now c.in-Err.error there c.requires.whole h c.in-Err.ensures.refusal

pub returns-in-Err-judge-clause-taken : goal.returns-in-Err-judge-clause-taken
returns-in-Err-judge-clause-taken c = λ S front back h there spelled.
    opening.take_rule_refused S front c.args.statement.now back c.args.self.now c.worth.new.self c.args.scope.now.constants c.args.scope.now c.in-Ok.values c.in-Err-judge.error there c.requires.whole h
    c.in-Ok.ensures.rest c.in-Ok.ensures.refusal c.in-Ok.ensures.value
    (subst (λ (t : Scope). IsStatementRefusal (λ cause. (p : Place) (said : Said) → p.at ≡ c.args.statement.now → IsBefore c.worth.new.self.before p said → refusal_valued t p said c.in-Ok.values ≡ Some cause) c.in-Err-judge.error)
    c.in-Ok.ensures.scope c.in-Err-judge.ensures.refused)

pub returns-clause-taken : goal.returns-clause-taken
returns-clause-taken c = λ S front back h there spelled.
    opening.take_done S (subst (λ (t : Scope). IsNamespace t.namespace) there c.requires.scope.types) front c.args.statement.now back c.args.self.now c.worth.new.self c.add.new.self c.with-self.result
    c.args.scope.now.constants c.add.new.constants c.args.scope.now c.in-Ok.values c.in-Ok-judge.judged (option_copied c.attribute_of.result) there c.requires.whole spelled h c.in-Ok.ensures.rest c.in-Ok.ensures.refusal
    c.in-Ok.ensures.value c.in-Ok.ensures.offsets
    (subst (λ (t : Scope). (p : Place) (said : Said) → p.at ≡ c.args.statement.now → IsBefore c.worth.new.self.before p said → IsJudged t p said c.in-Ok.values c.in-Ok-judge.judged) c.in-Ok.ensures.scope
    c.in-Ok-judge.ensures.judged)
    (subst (λ (t : Scope). with_addition (said_of c.worth.new.self t.constants) (name_of (option_copied c.attribute_of.result)) c.in-Ok-judge.judged.addition
    ≡ record (said_of c.add.new.self c.add.new.constants) { union = (with_addition (said_of c.worth.new.self t.constants) (name_of (option_copied c.attribute_of.result)) c.in-Ok-judge.judged.addition).union })
    c.in-Ok.ensures.scope c.in_ok-add.ensures.says)
    c.in_ok-add.ensures.totals c.in_ok-add.ensures.names c.in_ok-add.ensures.standing c.in_ok-add.ensures.whole c.in_ok-add.ensures.offsets c.with-self.ensures c.attribute_of.ensures c.requires.scope.constants c.in-Ok.ensures.kept
