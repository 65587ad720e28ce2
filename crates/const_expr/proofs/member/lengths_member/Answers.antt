use Rattle.std.proofs.Common.{◌≡◌, true, false, codes, Ok, ap, sym, ◌∙◌, rules}
use Rattle.std.specs.Str.{bytes_eq}
use Rattle.const_expr.specs.Constants.{naturals}
use Rattle.const_expr.specs.declared.constant.Const.{Const}
use Rattle.const_expr.proofs.MemberLists as lists
use Rattle.const_expr.proofs.member.lengths_member.Goals as goal

pub returns-then-eq-clause-value : goal.returns-then-eq-clause-value
returns-then-eq-clause-value c =
    let ns = c.args.lengths.now in
    let min : bytes_eq c.args.name.now (codes "min") ≡ true = search rules in
    ap (λ (u : Const). Ok u) c.natural.ensures ∙ sym (lists.at_min (naturals ns) c.args.name.now min ∙ lists.least_is ns c.min.result c.count-count.ensures.ascending c.min.ensures)

pub returns-then-eq-2-clause-value : goal.returns-then-eq-2-clause-value
returns-then-eq-2-clause-value c =
    let ns = c.args.lengths.now in
    let min : bytes_eq c.args.name.now (codes "min") ≡ false = search rules in
    let max : bytes_eq c.args.name.now (codes "max") ≡ true = search rules in
    ap (λ (u : Const). Ok u) c.natural-then-eq-2.ensures
    ∙ sym (lists.at_max (naturals ns) c.args.name.now min max ∙ lists.greatest_is ns c.max.result c.count-count.ensures.ascending c.max.ensures.greatest)
