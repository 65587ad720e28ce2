-- What padding adds.
use Rattle.std.proofs.Common.{◌≡◌, ℕ, ◌≤◌, ◌^◌, Bool, false, List, [], ◌∷◌, ◌++◌, Option, Some, None, sym, ap, ◌∙◌, subst}
use Rattle.std.specs.Prelude.{is_none}
use Rattle.std.specs.Option.{option_map, option_or}
use Rattle.dsdl_parse.specs.declared.statement.Statement.TheVariants as statement
use Rattle.dsdl_types.specs.Views.{Padding, named, flds}
use Rattle.dsdl_types.specs.declared.schema.Field.{Field, roll-Field}
use Rattle.dsdl_types.specs.declared.schema.Schema.TheVariants as schema
use Rattle.dsdl_types.proofs.Equations.{named_field, kind_void}
use Rattle.const_expr.specs.declared.scope.Scope.{Scope}
use Rattle.dsdl_resolve.specs.declared.addition.Addition.TheVariants as addition
use Rattle.dsdl_resolve.specs.declared.totals.Totals.{Totals}
use Rattle.dsdl_resolve.specs.declared.values.Values.{Values}
use Rattle.dsdl_resolve.specs.declared.why.DsdlWhy.{DsdlWhy}
use Rattle.dsdl_resolve.specs.declared.why.DsdlWhy.TheVariants as why
use Rattle.dsdl_resolve.specs.Additions.{with_addition, name_of, IsJudged}
use Rattle.dsdl_resolve.specs.Forms.{width_in}
use Rattle.dsdl_resolve.specs.Judged.{above_limit, assert_at, long_at, refusal_valued}
use Rattle.dsdl_resolve.specs.Place.{Place}
use Rattle.dsdl_resolve.specs.RuleNumbers.{behind_extent, padding_in_union, wrong_width}
use Rattle.dsdl_resolve.specs.Rules.{least, rules_of, is_behind_extent, is_padding_in_union}
use Rattle.dsdl_resolve.specs.Said.{Said, greatest}
use Rattle.dsdl_resolve.specs.Says.{attribute_of}
use Rattle.dsdl_resolve.specs.Totals.{AreTotals, AreCounted}
use Rattle.dsdl_resolve.specs.Values.{added, with_padding}
use Rattle.dsdl_resolve.proofs.WithinLimits.{within_totals}

-- padding of a width
abbrev pub gap_of : ℕ → Field
gap_of w = roll-Field (record { name = []; schema = schema.Void w })

pub gap_is : (w : ℕ) → (named (gap_of w)).1 ≡ Padding w
gap_is w = ap (λ x. x.1) (named_field [] (schema.Void w)) ∙ kind_void w

module _ (scope : Scope) (p : Place) (said : Said) (vs : Values) (digits : List ℕ) (at : p.at ≡ statement.Padding digits) where
  abbrev refusal_by : Bool → Bool → Option ℕ → Option DsdlWhy
  refusal_by b c w = option_or (option_map (λ n. why.Rule n) (least ((behind_extent, b) ∷ (padding_in_union, c) ∷ (wrong_width, is_none w) ∷ []))) (above_limit (greatest said.union (with_padding said w).fields))

  padding_refusal : refusal_valued scope p said vs ≡ refusal_by (is_behind_extent p) (is_padding_in_union p) (width_in 1 64 digits)
  padding_refusal = ap (λ s. option_or (option_map (λ n. why.Rule n) (least (rules_of scope p said vs s))) (option_or (assert_at vs s) (long_at scope said vs s))) at

  pub padding_judged : (w n : ℕ) (t : Totals) → is_behind_extent p ≡ false → is_padding_in_union p ≡ false → width_in 1 64 digits ≡ Some w →
      AreTotals t said.union (flds (said.fields ++ gap_of w ∷ [])) → AreCounted t → n ≡ greatest said.union (said.fields ++ gap_of w ∷ []) → above_limit n ≡ None → n ≤ 2 ^ 32 → t.nesting ≤ 32 → t.nodes ≤ 2 ^ 20 →
      IsJudged scope p said vs (record { addition = addition.Padding w; totals = t })
  padding_judged w n t five eight is h counted same none le flat few =
      let adds : with_padding said (Some w) ≡ added scope said p.at vs = sym (ap (λ s. added scope said s vs) at ∙ ap (with_padding said) is) in
      record {
        allowed = padding_refusal ∙ ap (λ b. refusal_by b (is_padding_in_union p) (width_in 1 64 digits)) five ∙ ap (λ b. refusal_by false b (width_in 1 64 digits)) eight ∙ ap (refusal_by false false) is
            ∙ ap above_limit (sym same) ∙ none;
        adds = ap (λ s. with_addition said (name_of (attribute_of s)) (addition.Padding w)) at ∙ adds;
        totals = subst (λ (z : Said). AreTotals t z.union (flds z.fields)) adds h;
        within = within_totals t said.union (flds (said.fields ++ gap_of w ∷ [])) n h counted same le flat few;
      }
