use Rattle.std.proofs.Common.{◌≡◌, ◌∙◌, sym, ap, subst, rules, false, true, is_some}
use Rattle.std.specs.Prelude.{codes}
use Rattle.std.specs.Str.{bytes_eq}
use Rattle.dsdl_types.specs.Views.{flds}
use Rattle.dsdl_resolve.specs.Additions.{IsJudged}
use Rattle.dsdl_resolve.specs.Judged.{long_extent}
use Rattle.dsdl_resolve.specs.Totals.{AreTotals, AreWithin}
use Rattle.dsdl_resolve.specs.Values.{natural_of}
use Rattle.dsdl_resolve.proofs.Answering.{judged_so}
use Rattle.dsdl_resolve.proofs.DirectiveJudged.{clear_with, union_judged, union_empty, extent_judged, extent_natural}
use Rattle.dsdl_resolve.proofs.directive.judge_directive.Goals as goal

pub returns-then-eq-2-clause-judged : goal.returns-then-eq-2-clause-judged
returns-then-eq-2-clause-judged c = λ scope vs x same some p said at h.
    let no_assert : bytes_eq c.args.name.now (codes "assert") ≡ false = search rules in
    let union : bytes_eq c.args.name.now (codes "union") ≡ true = search rules in
    let name_is : c.args.name.now ≡ codes "union" = search rules in
    let clear = clear_with p said vs c.args.name.now some (sym (c.directive_rule.ensures p said vs same h) ∙ c.in_default.is) in
    union_judged scope p said vs c.args.name.now x at clear c.empty.result no_assert union (ap (λ n. bytes_eq n (codes "extent")) name_is)
    (union_empty p said vs c.args.name.now (is_some x) c.args.before.now name_is h clear) c.empty.ensures.totals c.empty.ensures.within

pub returns-then-eq-3-clause-judged : goal.returns-then-eq-3-clause-judged
returns-then-eq-3-clause-judged c =
    let no_assert : bytes_eq c.args.name.now (codes "assert") ≡ false = search rules in
    let no_union : bytes_eq c.args.name.now (codes "union") ≡ false = search rules in
    let extent : bytes_eq c.args.name.now (codes "extent") ≡ true = search rules in
    let name_is : c.args.name.now ≡ codes "extent" = search rules in
    judged_so c.judge_extent.result _ _
    (λ j k. λ scope vs x same some p said at h.
    let clear = clear_with p said vs c.args.name.now some (sym (c.directive_rule.ensures p said vs same h) ∙ c.in_default.is) in
    let (n, is) = extent_natural p said vs c.args.name.now (is_some x) name_is (ap is_some same ∙ some) clear in
    subst (λ a. IsJudged scope p said vs (record { addition = a; totals = j.totals })) (sym (k.2 n (ap natural_of (sym same) ∙ is)))
    (extent_judged scope p said vs c.args.name.now x at clear n j.totals no_assert no_union extent is (ap (λ v. long_extent (natural_of v)) same ∙ k.1)
    (subst (λ t. AreTotals t said.union (flds said.fields)) (sym k.0) h.totals) (subst AreWithin (sym k.0) c.requires))) c.judge_extent.ensures.judged
