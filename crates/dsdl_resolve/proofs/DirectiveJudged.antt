-- What a directive is refused for, and what it adds.
use Rattle.std.proofs.Common.{◌≡◌, ℕ, Bool, true, false, List, [], Option, Some, None, if◌then◌else◌, is_some, refl, sym, ap, ◌∙◌, subst}
use Rattle.std.specs.Prelude.{codes, ◌||◌, not}
use Rattle.std.specs.List.{list_any}
use Rattle.std.specs.Option.{option_map, option_or}
use Rattle.std.specs.Str.{bytes_eq}
use Rattle.std.proofs.lemmas.Bool.{false≢true}
use Rattle.dsdl_parse.specs.declared.expr.Expr.{Expr}
use Rattle.dsdl_parse.specs.declared.statement.Statement.TheVariants as statement
use Rattle.dsdl_types.specs.Schemas.{End}
use Rattle.dsdl_types.specs.Views.{flds}
use Rattle.const_expr.specs.declared.constant.Const.{Const}
use Rattle.const_expr.specs.declared.scope.Scope.{Scope}
use Rattle.dsdl_resolve.specs.declared.addition.Addition.TheVariants as addition
use Rattle.dsdl_resolve.specs.declared.before.Before.{Before}
use Rattle.dsdl_resolve.specs.declared.totals.Totals.{Totals}
use Rattle.dsdl_resolve.specs.declared.values.Values.{Values}
use Rattle.dsdl_resolve.specs.declared.why.DsdlWhy.{DsdlWhy}
use Rattle.dsdl_resolve.specs.declared.why.DsdlWhy.TheVariants as why
use Rattle.dsdl_resolve.specs.Additions.{IsBefore, IsJudged}
use Rattle.dsdl_resolve.specs.Judged.{assert_at, if_false, long_at, long_extent, refusal_valued}
use Rattle.dsdl_resolve.specs.Place.{Place}
use Rattle.dsdl_resolve.specs.Rules.{least, rules_of, directive_rules, is_extent_too_small, is_extent_for}
use Rattle.dsdl_resolve.specs.Said.{Said, greatest}
use Rattle.dsdl_resolve.specs.Says.{is_union, is_entry}
use Rattle.dsdl_resolve.specs.Totals.{AreTotals, AreWithin}
use Rattle.dsdl_resolve.specs.Values.{added, natural_of, with_directive}
use Rattle.dsdl_resolve.proofs.SoundSection.{kept}

module _ (scope : Scope) (p : Place) (said : Said) (vs : Values) (name : List ℕ) (x : Option Expr) (at : p.at ≡ statement.Directive name x)
    (clear : least (directive_rules p said vs name (is_some x)) ≡ None) where
  -- no rule is broken: what is left is a false `@assert`, or a long extent
  refusal_is : refusal_valued scope p said vs ≡ option_or (assert_at vs (statement.Directive name x)) (long_at scope said vs (statement.Directive name x))
  refusal_is =
      ap (λ s. option_or (option_map (λ n. why.Rule n) (least (rules_of scope p said vs s))) (option_or (assert_at vs s) (long_at scope said vs s))) at
      ∙ ap (λ r. option_or (option_map (λ n. why.Rule n) r) (option_or (assert_at vs (statement.Directive name x)) (long_at scope said vs (statement.Directive name x)))) clear

  pub assert_refused : (cause : DsdlWhy) → bytes_eq name (codes "assert") ≡ true → if_false vs.value ≡ Some cause → refusal_valued scope p said vs ≡ Some cause
  assert_refused cause is f =
      refusal_is
      ∙ ap (λ b. option_or (if b then if_false vs.value else None) (long_at scope said vs (statement.Directive name x))) is
      ∙ ap (λ o. option_or o (long_at scope said vs (statement.Directive name x))) f

  pub extent_refused : (cause : DsdlWhy) → bytes_eq name (codes "assert") ≡ false → bytes_eq name (codes "extent") ≡ true → long_extent (natural_of vs.value) ≡ Some cause →
      refusal_valued scope p said vs ≡ Some cause
  extent_refused cause other is f =
      refusal_is
      ∙ ap (λ b. option_or (if b then if_false vs.value else None) (long_at scope said vs (statement.Directive name x))) other
      ∙ ap (λ b. if b then long_extent (natural_of vs.value) else None) is ∙ f

  -- what stays where nothing is added
  stays : (t : Totals) → refusal_valued scope p said vs ≡ None → with_directive said name vs.value ≡ said → AreTotals t said.union (flds said.fields) → AreWithin t →
      IsJudged scope p said vs (record { addition = addition.Nothing; totals = t })
  stays t none same h within =
      let adds : said ≡ added scope said p.at vs = sym (ap (λ s. added scope said s vs) at ∙ same) in
      record { allowed = none; adds = adds; totals = subst (λ (z : Said). AreTotals t z.union (flds z.fields)) adds h; within = within }

  plain : bytes_eq name (codes "union") ≡ false → bytes_eq name (codes "extent") ≡ false → with_directive said name vs.value ≡ said
  plain u e =
      ap (λ b. if b then record said { union = true } else if bytes_eq name (codes "extent") then record said { extent = natural_of vs.value } else said) u
      ∙ ap (λ b. if b then record said { extent = natural_of vs.value } else said) e

  no_long : bytes_eq name (codes "extent") ≡ false → long_at scope said vs (statement.Directive name x) ≡ None
  no_long e = ap (λ b. if b then long_extent (natural_of vs.value) else None) e

  pub other_judged : (t : Totals) → bytes_eq name (codes "assert") ≡ false → bytes_eq name (codes "union") ≡ false → bytes_eq name (codes "extent") ≡ false →
      AreTotals t said.union (flds said.fields) → AreWithin t → IsJudged scope p said vs (record { addition = addition.Nothing; totals = t })
  other_judged t a u e h within =
      stays t (refusal_is ∙ ap (λ b. option_or (if b then if_false vs.value else None) (long_at scope said vs (statement.Directive name x))) a ∙ no_long e) (plain u e) h within

  pub assert_judged : (t : Totals) → bytes_eq name (codes "assert") ≡ true → bytes_eq name (codes "union") ≡ false → bytes_eq name (codes "extent") ≡ false → if_false vs.value ≡ None →
      AreTotals t said.union (flds said.fields) → AreWithin t → IsJudged scope p said vs (record { addition = addition.Nothing; totals = t })
  assert_judged t a u e f h within =
      stays t
      (refusal_is ∙ ap (λ b. option_or (if b then if_false vs.value else None) (long_at scope said vs (statement.Directive name x))) a
      ∙ ap (λ o. option_or o (long_at scope said vs (statement.Directive name x))) f ∙ no_long e) (plain u e) h within

  pub union_judged : (t : Totals) → bytes_eq name (codes "assert") ≡ false → bytes_eq name (codes "union") ≡ true → bytes_eq name (codes "extent") ≡ false → said.fields ≡ [] → AreTotals t true End → AreWithin t →
      IsJudged scope p said vs (record { addition = addition.Union; totals = t })
  union_judged t a u e empty h within =
      let adds : record said { union = true } ≡ added scope said p.at vs =
      sym (ap (λ s. added scope said s vs) at ∙ ap (λ b. if b then record said { union = true } else if bytes_eq name (codes "extent") then record said { extent = natural_of vs.value } else said) u)
      in
      record {
        allowed = refusal_is ∙ ap (λ b. option_or (if b then if_false vs.value else None) (long_at scope said vs (statement.Directive name x))) a ∙ no_long e;
        adds = adds;
        totals = subst (λ (z : Said). AreTotals t z.union (flds z.fields)) adds (subst (λ fs. AreTotals t true (flds fs)) (sym empty) h);
        within = within;
      }

  pub extent_judged : (n : ℕ) (t : Totals) → bytes_eq name (codes "assert") ≡ false → bytes_eq name (codes "union") ≡ false → bytes_eq name (codes "extent") ≡ true →
      natural_of vs.value ≡ Some n → long_extent (natural_of vs.value) ≡ None → AreTotals t said.union (flds said.fields) → AreWithin t →
      IsJudged scope p said vs (record { addition = addition.Extent n; totals = t })
  extent_judged n t a u e is short h within =
      let adds : record said { extent = Some n } ≡ added scope said p.at vs =
      sym (ap (λ s. added scope said s vs) at
      ∙ ap (λ b. if b then record said { union = true } else if bytes_eq name (codes "extent") then record said { extent = natural_of vs.value } else said) u
      ∙ ap (λ b. if b then record said { extent = natural_of vs.value } else said) e
      ∙ ap (λ o. record said { extent = o }) is)
      in
      record {
        allowed = refusal_is ∙ ap (λ b. option_or (if b then if_false vs.value else None) (long_at scope said vs (statement.Directive name x))) a
            ∙ ap (λ b. if b then long_extent (natural_of vs.value) else None) e ∙ short;
        adds = adds;
        totals = subst (λ (z : Said). AreTotals t z.union (flds z.fields)) adds h;
        within = within;
      }

-- no rule is broken, whether by a value or by the expression that is worth it
pub clear_with : (p : Place) (said : Said) (vs : Values) (name : List ℕ) {b c : Bool} → b ≡ c → least (directive_rules p said vs name b) ≡ None → least (directive_rules p said vs name c) ≡ None
clear_with p said vs name same clear = subst (λ d. least (directive_rules p said vs name d) ≡ None) same clear

-- an extent that isn't too small, and has an expression, is a whole number
whole_extent : (said : Said) (value : Option Const) (some : Bool) → is_some value ≡ some → is_extent_too_small said value ≡ false → not some ≡ false → (n : ℕ) × (natural_of value ≡ Some n)
whole_extent said value false e four eighteen = absurd (false≢true (sym eighteen))
whole_extent said None true e four eighteen = absurd (false≢true e)
whole_extent said (Some u) true e four eighteen = by_natural (natural_of (Some u)) four
  where
    by_natural : (o : Option ℕ) → not (is_extent_for (greatest said.union said.fields) o) ≡ false → (n : ℕ) × (o ≡ Some n)
    by_natural None h = absurd (false≢true (sym h))
    by_natural (Some n) h = (n, refl)

pub extent_natural : (p : Place) (said : Said) (vs : Values) (name : List ℕ) (some : Bool) → name ≡ codes "extent" → is_some vs.value ≡ some → least (directive_rules p said vs name some) ≡ None → (n : ℕ) × (natural_of vs.value ≡ Some n)
extent_natural p said vs name some is same clear =
    let k = kept (directive_rules p said vs (codes "extent") some) (subst (λ n. least (directive_rules p said vs n some) ≡ None) is clear) in
    whole_extent said vs.value some same k.1.0 k.1.1.0

either : (a b : Bool) → (a || b) ≡ false → b ≡ false
either true b e = absurd (false≢true (sym e))
either false b e = e

pub union_empty : (p : Place) (said : Said) (vs : Values) (name : List ℕ) (some : Bool) (before : Before) → name ≡ codes "union" → IsBefore before p said → least (directive_rules p said vs name some) ≡ None → said.fields ≡ []
union_empty p said vs name some before is h clear =
    let k = kept (directive_rules p said vs (codes "union") some) (subst (λ n. least (directive_rules p said vs n some) ≡ None) is clear) in
    h.empty (h.standing.entry ∙ either (list_any is_union p.before) (list_any is_entry p.before) k.0)
