-- The schemas of the tests keep the rules
use Rattle.std.proofs.Common.{◌≡◌, ◌∙◌, true, sym, ap, subst}
use Rattle.dsdl_types.specs.Rules.{IsSchema}
use Rattle.dsdl_types.specs.Schemas.{Sch, is_composite}
use Rattle.dsdl_types.specs.Views.{Typed, kind_of, sch, type_of}
use Rattle.dsdl_types.specs.declared.schema.Schema.{Schema}
use Rattle.dsdl_types.proofs.RuleTests.{is_schema, rules_kept}

pub keeps : (s : Schema) (t : Sch) → kind_of s ≡ Typed t → is_schema t ≡ true → IsSchema (sch s)
keeps s t e h = subst IsSchema (sym (ap type_of e)) (rules_kept t h)

pub composite : (s : Schema) (t : Sch) → kind_of s ≡ Typed t → is_composite t ≡ true → is_composite (sch s) ≡ true
composite s t e h = ap (λ k. is_composite (type_of k)) e ∙ h
