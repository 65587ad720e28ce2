-- What a field is refused for, and what it adds.
use Rattle.std.proofs.Common.{◌≡◌, ℕ, suc, ◌+◌, ◌^◌, Bool, true, false, List, [], ◌∷◌, ◌++◌, Option, Some, None, if◌then◌else◌, ◌⊎◌, inl, inr, refl, sym, ap, ◌∙◌, subst}
use Rattle.std.specs.Prelude.{is_none, max, nat_lt}
use Rattle.std.specs.Option.{option_map, option_or}
use Rattle.std.proofs.lemmas.Bool.{cases_Bool}
use Rattle.std.proofs.lemmas.Option.{none-some, option_and_then_some}
use Rattle.dsdl_parse.specs.declared.statement.Form.{Form}
use Rattle.dsdl_parse.specs.declared.statement.Scalar.{Scalar}
use Rattle.dsdl_parse.specs.declared.statement.Scalar.TheVariants as scalar
use Rattle.dsdl_parse.specs.declared.statement.Statement.TheVariants as statement
use Rattle.dsdl_types.specs.Rules.{nodes, nodes_of, nesting, nesting_of}
use Rattle.dsdl_types.specs.Schemas.{Flds}
use Rattle.dsdl_types.specs.Views.{Typed, kind_of, type_of, is_padding, named, sch, flds}
use Rattle.dsdl_types.specs.declared.schema.Field.{Field, roll-Field}
use Rattle.dsdl_types.specs.declared.schema.Schema.{Schema}
use Rattle.dsdl_types.proofs.Equations.{named_field}
use Rattle.const_expr.specs.declared.constant.Const.{Const}
use Rattle.const_expr.specs.declared.scope.Scope.{Scope}
use Rattle.dsdl_resolve.specs.declared.addition.Addition.TheVariants as addition
use Rattle.dsdl_resolve.specs.declared.measure.Measure.{Measure}
use Rattle.dsdl_resolve.specs.declared.totals.Totals.{Totals}
use Rattle.dsdl_resolve.specs.declared.typed.Counted.{Counted}
use Rattle.dsdl_resolve.specs.declared.typed.Typed as of_form
use Rattle.dsdl_resolve.specs.declared.values.Values.{Values}
use Rattle.dsdl_resolve.specs.declared.why.DsdlWhy.{DsdlWhy}
use Rattle.dsdl_resolve.specs.declared.why.DsdlWhy.TheVariants as why
use Rattle.dsdl_resolve.specs.Additions.{size_refusal, with_addition, name_of, IsJudged}
use Rattle.dsdl_resolve.specs.Counts.{IsCountedType}
use Rattle.dsdl_resolve.specs.Forms as forms
use Rattle.dsdl_resolve.specs.Judged.{above_limit, assert_at, long_at, refusal_valued}
use Rattle.dsdl_resolve.specs.Place.{Place}
use Rattle.dsdl_resolve.specs.RuleNumbers.{not_a_message, nested_too_deep, too_many_nodes}
use Rattle.dsdl_resolve.specs.Rules.{Tests, least, rules_of, named_rules, has_wrong_capacity, has_wrong_width, is_no_message, is_nested_too_deep, has_too_many_nodes}
use Rattle.dsdl_resolve.specs.Said.{Said, greatest}
use Rattle.dsdl_resolve.specs.Says.{attribute_of}
use Rattle.dsdl_resolve.specs.Totals.{AreTotals, AreWithin, IsMeasure}
use Rattle.dsdl_resolve.specs.Values.{added, with_field}
use Rattle.dsdl_resolve.proofs.FormTypes.{IsFieldType}
use Rattle.dsdl_resolve.proofs.SoundSection.{type_some}
use Rattle.dsdl_resolve.proofs.Onto as O
use Rattle.dsdl_resolve.proofs.Onto.{onto, flds_more}

rule_of : Option ℕ → Option DsdlWhy
rule_of r = option_map (λ n. why.Rule n) r

-- the first broken rule of some, and else of others
pub least_or : (ts us : Tests) → least (ts ++ us) ≡ option_or (least ts) (least us)
least_or [] us = refl
least_or (t ∷ ts) us = go t.1 t.0 (least_or ts us)
  where
    go : (b : Bool) (n : ℕ) → least (ts ++ us) ≡ option_or (least ts) (least us) → (if b then Some n else least (ts ++ us)) ≡ option_or (if b then Some n else least ts) (least us)
    go true n e = refl
    go false n e = e

-- the same with the value of the bound
pub at_bound : (p : Place) (form : Form) (name : List ℕ) {b u : Option Const} {r : Option ℕ} → b ≡ u → r ≡ least (named_rules p u form name []) → r ≡ least (named_rules p b form name [])
at_bound p form name same h = h ∙ ap (λ o. least (named_rules p o form name [])) (sym same)

-- ---- whether a form has a type
item_messaged : (scope : Scope) (s : Scalar) (t : of_form.Typed) → forms.item_of scope s ≡ Some t → is_no_message scope true s ≡ false
item_messaged scope (scalar.Primitive word name) t e = refl
item_messaged scope (scalar.Reference r) t e = ap is_none e
item_messaged scope (scalar.Void digits) t e = absurd (none-some t e)

pub type_messaged : (scope : Scope) (form : Form) (u : Option Const) (t : of_form.Typed) → forms.type_of scope form u ≡ Some t → is_no_message scope true form.scalar ≡ false
type_messaged scope form u t e = option_and_then_some (forms.in_bound form.array u) (forms.item_of scope form.scalar) t e (λ item at is. item_messaged scope form.scalar item at)

pub type_missing : (scope : Scope) (form : Form) (u : Option Const) → has_wrong_width form.scalar ≡ false → has_wrong_capacity form.array u ≡ false → forms.type_of scope form u ≡ None →
    is_no_message scope true form.scalar ≡ true
type_missing scope form u wide count none = at (cases_Bool (is_no_message scope true form.scalar))
  where
    at : (is_no_message scope true form.scalar ≡ true) ⊎ (is_no_message scope true form.scalar ≡ false) → is_no_message scope true form.scalar ≡ true
    at (inl e) = e
    at (inr e) = let (t, is) = type_some scope form u wide count e in absurd (none-some t (sym none ∙ is))

-- what is said of a type that was found, or of none
pub type_none : (scope : Scope) (form : Form) (u : Option Const) (found : Option Counted) → IsCountedType scope form u found → ((t : Counted) → found ≡ Some t → ⊥) → forms.type_of scope form u ≡ None
type_none scope form u None h other = h
type_none scope form u (Some t) h other = absurd (other t refl)

pub type_found : (scope : Scope) (form : Form) (u : Option Const) (found : Option Counted) (t : Counted) → IsCountedType scope form u found → found ≡ Some t → IsCountedType scope form u (Some t)
type_found scope form u found t h is = subst (IsCountedType scope form u) is h

-- a field of a name and a type
abbrev pub made : List ℕ → Schema → Field
made name s = roll-Field (record { name = name; schema = s })

module _ (fields : List Field) (name : List ℕ) (s : Schema) (typed : kind_of s ≡ Typed (sch s)) where
  made_is : named (made name s) ≡ (name, Typed (sch s))
  made_is = named_field name s ∙ ap (λ k. (name, k)) typed

  made_more : flds (fields ++ made name s ∷ []) ≡ onto (flds fields) name (Typed (sch s))
  made_more = flds_more fields (made name s) ∙ ap (λ x. onto (flds fields) x.0 x.1) made_is

  nodes_made : nodes_of (flds (fields ++ made name s ∷ [])) ≡ nodes_of (flds fields) + nodes (sch s)
  nodes_made = ap nodes_of made_more ∙ O.nodes_typed name (sch s) (flds fields)

  nesting_made : nesting_of (flds (fields ++ made name s ∷ [])) ≡ max (nesting_of (flds fields)) (nesting (sch s))
  nesting_made = ap nesting_of made_more ∙ O.nesting_typed name (sch s) (flds fields)

  pub made_typed : is_padding (named (made name s)).1 ≡ false
  made_typed = ap (λ x. is_padding x.1) made_is

  pub made_measure : (m : Measure) → IsMeasure m (sch s) → IsMeasure m (type_of (named (made name s)).1)
  made_measure m h = subst (λ x. IsMeasure m (type_of x.1)) (sym made_is) h

-- the numbers of a field's rules and of its length, by the fields with it
sizes : (a b : Bool) (l : Option DsdlWhy) → option_or (rule_of (if a then Some nested_too_deep else if b then Some too_many_nodes else None)) l ≡ (if a then Some (why.Rule nested_too_deep) else if b then Some (why.Rule too_many_nodes) else l)
unfolding rule_of
sizes true b l = refl
sizes false true l = refl
sizes false false l = refl

module _ (scope : Scope) (p : Place) (said : Said) (vs : Values) (form : Form) (name : List ℕ) (at : p.at ≡ statement.Field form name) where
  long_with : Option of_form.Typed → Option DsdlWhy
  long_with t = above_limit (greatest said.union (with_field said name t).fields)

  last_rules : Option of_form.Typed → Tests
  last_rules t = (not_a_message, is_no_message scope true form.scalar) ∷ (nested_too_deep, is_nested_too_deep said t) ∷ (too_many_nodes, has_too_many_nodes said t) ∷ []

  refusal_is : refusal_valued scope p said vs ≡ option_or (rule_of (option_or (least (named_rules p vs.bound form name [])) (least (last_rules (forms.type_of scope form vs.bound))))) (long_with (forms.type_of scope form vs.bound))
  unfolding rule_of last_rules long_with
  refusal_is =
      ap (λ s. option_or (option_map (λ n. why.Rule n) (least (rules_of scope p said vs s))) (option_or (assert_at vs s) (long_at scope said vs s))) at
      ∙ ap (λ r. option_or (option_map (λ n. why.Rule n) r) (above_limit (greatest said.union (with_field said name (forms.type_of scope form vs.bound)).fields)))
      (least_or (named_rules p vs.bound form name []) ((not_a_message, is_no_message scope true form.scalar) ∷ (nested_too_deep, is_nested_too_deep said (forms.type_of scope form vs.bound)) ∷ (too_many_nodes, has_too_many_nodes said (forms.type_of scope form vs.bound)) ∷ []))

  pub named_refused : (n : ℕ) → Some n ≡ least (named_rules p vs.bound form name []) → refusal_valued scope p said vs ≡ Some (why.Rule n)
  unfolding rule_of
  named_refused n h = refusal_is ∙ ap (λ r. option_or (rule_of (option_or r (least (last_rules (forms.type_of scope form vs.bound))))) (long_with (forms.type_of scope form vs.bound))) (sym h)

  module _ (clear : None ≡ least (named_rules p vs.bound form name [])) where
    refusal_last : refusal_valued scope p said vs ≡ option_or (rule_of (least (last_rules (forms.type_of scope form vs.bound)))) (long_with (forms.type_of scope form vs.bound))
    refusal_last = refusal_is ∙ ap (λ r. option_or (rule_of (option_or r (least (last_rules (forms.type_of scope form vs.bound))))) (long_with (forms.type_of scope form vs.bound))) (sym clear)

    pub message_refused : is_no_message scope true form.scalar ≡ true → refusal_valued scope p said vs ≡ Some (why.Rule not_a_message)
    unfolding rule_of last_rules
    message_refused h =
        refusal_last
        ∙ ap (λ b. option_or (rule_of (least ((not_a_message, b) ∷ (nested_too_deep, is_nested_too_deep said (forms.type_of scope form vs.bound)) ∷ (too_many_nodes, has_too_many_nodes said (forms.type_of scope form vs.bound)) ∷ []))) (long_with (forms.type_of scope form vs.bound))) h

    module _ (messaged : is_no_message scope true form.scalar ≡ false) (t : of_form.Typed) (is : forms.type_of scope form vs.bound ≡ Some t) (fine : IsFieldType t.schema) where
      abbrev with_it : Flds
      with_it = flds (said.fields ++ made name t.schema ∷ [])

      depth_same : is_nested_too_deep said (Some t) ≡ nat_lt 32 (suc (nesting_of with_it))
      depth_same = ap (λ n. nat_lt 32 (suc n)) (nesting_made said.fields [] t.schema fine.typed ∙ sym (nesting_made said.fields name t.schema fine.typed))

      nodes_same : has_too_many_nodes said (Some t) ≡ nat_lt (2 ^ 20) (suc (nodes_of with_it))
      nodes_same = ap (λ n. nat_lt (2 ^ 20) (suc n)) (nodes_made said.fields [] t.schema fine.typed ∙ sym (nodes_made said.fields name t.schema fine.typed))

      pub sized : refusal_valued scope p said vs ≡ size_refusal said.union (flds (said.fields ++ made name t.schema ∷ []))
      unfolding rule_of last_rules long_with
      sized =
          refusal_last
          ∙ ap (λ o. option_or (rule_of (least (last_rules o))) (long_with o)) is
          ∙ ap (λ b. option_or (rule_of (least ((not_a_message, b) ∷ (nested_too_deep, is_nested_too_deep said (Some t)) ∷ (too_many_nodes, has_too_many_nodes said (Some t)) ∷ []))) (long_with (Some t))) messaged
          ∙ sizes (is_nested_too_deep said (Some t)) (has_too_many_nodes said (Some t)) (long_with (Some t))
          ∙ ap (λ b. if b then Some (why.Rule nested_too_deep) else if has_too_many_nodes said (Some t) then Some (why.Rule too_many_nodes) else long_with (Some t)) depth_same
          ∙ ap (λ b. if nat_lt 32 (suc (nesting_of with_it)) then Some (why.Rule nested_too_deep) else if b then Some (why.Rule too_many_nodes) else long_with (Some t)) nodes_same

      pub field_judged : (totals : Totals) → size_refusal said.union (flds (said.fields ++ made name t.schema ∷ [])) ≡ None →
          AreTotals totals said.union (flds (said.fields ++ made name t.schema ∷ [])) → AreWithin totals → IsJudged scope p said vs (record { addition = addition.Field t; totals = totals })
      field_judged totals none h within =
          let adds : with_field said name (Some t) ≡ added scope said p.at vs = sym (ap (λ s. added scope said s vs) at ∙ ap (with_field said name) is) in
          record {
            allowed = sized ∙ none;
            adds = ap (λ s. with_addition said (name_of (attribute_of s)) (addition.Field t)) at ∙ adds;
            totals = subst (λ (z : Said). AreTotals totals z.union (flds z.fields)) adds h;
            within = within;
          }
