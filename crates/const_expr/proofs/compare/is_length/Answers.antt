use Rattle.std.proofs.Common.{◌≡◌, ◌≤◌, pos, Equal, sym, ap, ◌∙◌, arith}
use Rattle.cy_ratio.specs.Fraction.{order_of}
use Rattle.const_expr.specs.declared.constant.Const.TheVariants as const
use Rattle.const_expr.specs.Constants.{has, naturals, natural, whole, const_order}
use Rattle.const_expr.proofs.CompareLemmas.{is_member, none_has, number_order}
use Rattle.const_expr.proofs.compare.is_length.Goals as goal

pub returns-in-Some : goal.returns-in-Some
returns-in-Some c =
    let same : natural c.in-Some.n ≡ c.args.x.now = ap const.Number (sym c.in-Some.ensures) ∙ sym c.in-Number.is in
    is_member c.args.lengths.now c.in-Some.n c.has.result c.has.ensures ∙ ap (λ y. has (naturals c.args.lengths.now) y) same

pub returns-in-None : goal.returns-in-None
returns-in-None c = sym (none_has c.args.lengths.now c.args.x.now (λ n t e.
    let upper : n ≤ c.max-greatest.result = c.max-greatest.ensures.greatest.1 n t in
    let met : order_of c.in-Number.x (whole (pos n)) ≡ Equal =
    sym (number_order c.in-Number.x (whole (pos n))) ∙ ap (λ y. const_order y (natural n)) (sym c.in-Number.is) ∙ e in
    c.in-None.ensures n (omega arith) met))
