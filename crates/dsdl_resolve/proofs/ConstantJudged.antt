-- What a constant is refused for, and what it adds.
use Rattle.std.proofs.Common.{◌≡◌, ℕ, true, false, List, [], ◌∷◌, Option, Some, None, is_some, sym, ap, ◌∙◌, subst}
use Rattle.std.specs.Option.{option_map, option_or}
use Rattle.dsdl_parse.specs.declared.expr.Expr.{Expr}
use Rattle.dsdl_parse.specs.declared.statement.Form.{Form}
use Rattle.dsdl_parse.specs.declared.statement.Statement.TheVariants as statement
use Rattle.dsdl_types.specs.Views.{flds}
use Rattle.const_expr.specs.declared.constant.Const.{Const}
use Rattle.const_expr.specs.declared.scope.Scope.{Scope}
use Rattle.dsdl_resolve.specs.declared.addition.Addition.TheVariants as addition
use Rattle.dsdl_resolve.specs.declared.totals.Totals.{Totals}
use Rattle.dsdl_resolve.specs.declared.values.Values.{Values}
use Rattle.dsdl_resolve.specs.declared.why.DsdlWhy.{DsdlWhy}
use Rattle.dsdl_resolve.specs.declared.why.DsdlWhy.TheVariants as why
use Rattle.dsdl_resolve.specs.Additions.{with_addition, name_of, IsJudged}
use Rattle.dsdl_resolve.specs.Judged.{assert_at, long_at, refusal_valued}
use Rattle.dsdl_resolve.specs.Place.{Place}
use Rattle.dsdl_resolve.specs.RuleNumbers.{not_a_message, constant_not_primitive, constant_out_of_range}
use Rattle.dsdl_resolve.specs.Rules.{least, rules_of, named_rules, is_no_message, is_not_primitive, is_out_of_range}
use Rattle.dsdl_resolve.specs.Said.{Said}
use Rattle.dsdl_resolve.specs.Says.{attribute_of}
use Rattle.dsdl_resolve.specs.Totals.{AreTotals, AreWithin}
use Rattle.dsdl_resolve.specs.Values.{added, with_constant, constant_value}
use Rattle.dsdl_resolve.proofs.FieldJudged.{least_or}

pub rule_of : Option ℕ → Option DsdlWhy
rule_of r = option_map (λ n. why.Rule n) r

module _ (scope : Scope) (p : Place) (said : Said) (vs : Values) (form : Form) (name : List ℕ) (x : Expr) (at : p.at ≡ statement.Constant form name x) where
  refusal_is : refusal_valued scope p said vs ≡ option_or (rule_of (option_or (least (named_rules p vs.bound form name []))
      (least ((not_a_message, is_no_message scope (is_some form.array) form.scalar) ∷ (constant_not_primitive, is_not_primitive form) ∷ (constant_out_of_range, is_out_of_range form.scalar vs.value) ∷ [])))) None
  unfolding rule_of
  refusal_is =
      ap (λ s. option_or (option_map (λ n. why.Rule n) (least (rules_of scope p said vs s))) (option_or (assert_at vs s) (long_at scope said vs s))) at
      ∙ ap (λ r. option_or (option_map (λ n. why.Rule n) r) None)
      (least_or (named_rules p vs.bound form name []) ((not_a_message, is_no_message scope (is_some form.array) form.scalar) ∷ (constant_not_primitive, is_not_primitive form) ∷ (constant_out_of_range, is_out_of_range form.scalar vs.value) ∷ []))

  pub named_refused : (n : ℕ) → Some n ≡ least (named_rules p vs.bound form name []) → refusal_valued scope p said vs ≡ Some (why.Rule n)
  unfolding rule_of
  named_refused n h =
      refusal_is
      ∙ ap (λ r. option_or (rule_of (option_or r (least ((not_a_message, is_no_message scope (is_some form.array) form.scalar) ∷ (constant_not_primitive, is_not_primitive form) ∷ (constant_out_of_range, is_out_of_range form.scalar vs.value) ∷ [])))) None) (sym h)

  module _ (clear : None ≡ least (named_rules p vs.bound form name [])) where
    refusal_last : refusal_valued scope p said vs ≡ option_or (rule_of (least ((not_a_message, is_no_message scope (is_some form.array) form.scalar) ∷ (constant_not_primitive, is_not_primitive form) ∷ (constant_out_of_range, is_out_of_range form.scalar vs.value) ∷ []))) None
    refusal_last =
        refusal_is
        ∙ ap (λ r. option_or (rule_of (option_or r (least ((not_a_message, is_no_message scope (is_some form.array) form.scalar) ∷ (constant_not_primitive, is_not_primitive form) ∷ (constant_out_of_range, is_out_of_range form.scalar vs.value) ∷ [])))) None) (sym clear)

    pub message_refused : is_no_message scope (is_some form.array) form.scalar ≡ true → refusal_valued scope p said vs ≡ Some (why.Rule not_a_message)
    unfolding rule_of
    message_refused h = refusal_last ∙ ap (λ b. option_or (rule_of (least ((not_a_message, b) ∷ (constant_not_primitive, is_not_primitive form) ∷ (constant_out_of_range, is_out_of_range form.scalar vs.value) ∷ []))) None) h

    module _ (messaged : is_no_message scope (is_some form.array) form.scalar ≡ false) where
      refusal_two : refusal_valued scope p said vs ≡ option_or (rule_of (least ((constant_not_primitive, is_not_primitive form) ∷ (constant_out_of_range, is_out_of_range form.scalar vs.value) ∷ []))) None
      unfolding rule_of
      refusal_two = refusal_last ∙ ap (λ b. option_or (rule_of (least ((not_a_message, b) ∷ (constant_not_primitive, is_not_primitive form) ∷ (constant_out_of_range, is_out_of_range form.scalar vs.value) ∷ []))) None) messaged

      pub value_refused : (n : ℕ) → Some n ≡ least ((constant_not_primitive, is_not_primitive form) ∷ (constant_out_of_range, is_out_of_range form.scalar vs.value) ∷ []) → refusal_valued scope p said vs ≡ Some (why.Rule n)
      unfolding rule_of
      value_refused n h = refusal_two ∙ ap (λ r. option_or (rule_of r) None) (sym h)

      pub constant_judged : (u : Const) (totals : Totals) → None ≡ least ((constant_not_primitive, is_not_primitive form) ∷ (constant_out_of_range, is_out_of_range form.scalar vs.value) ∷ []) → vs.value ≡ Some u →
          AreTotals totals said.union (flds said.fields) → AreWithin totals → IsJudged scope p said vs (record { addition = addition.Constant (constant_value u); totals = totals })
      unfolding rule_of
      constant_judged u totals none is h within =
          let adds : with_constant said name (Some u) ≡ added scope said p.at vs = sym (ap (λ s. added scope said s vs) at ∙ ap (with_constant said name) is) in
          record {
            allowed = refusal_two ∙ ap (λ r. option_or (rule_of r) None) (sym none);
            adds = ap (λ s. with_addition said (name_of (attribute_of s)) (addition.Constant (constant_value u))) at ∙ adds;
            totals = subst (λ (z : Said). AreTotals totals z.union (flds z.fields)) adds h;
            within = within;
          }
