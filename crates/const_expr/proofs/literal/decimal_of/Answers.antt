use Rattle.std.proofs.Common.{◌≡◌, ◌≤◌, ◌^◌, ◌+◌, ◌++◌, take, drop, length, unsigned_abs, sym, ap, ◌∙◌, subst, arith}
use Rattle.std.specs.List.{before_first, after_first}
use Rattle.std.specs.Str.Parse.{digits_value}
use Rattle.const_expr.specs.Literal.{digits, exponent_of, is_exponent_sign, is_point}
use Rattle.const_expr.proofs.LiteralLemmas.{far_scaled}
use Rattle.const_expr.proofs.literal.decimal_of.Goals as goal

pub returns-in-Some-None-clause-value : goal.returns-in-Some-None-clause-value
returns-in-Some-None-clause-value c =
    let text = c.args.text.now in
    let sign = c.exponent_sign_in.ensures.value in
    let mantissa : c.cut.result.0.now ≡ before_first is_exponent_sign text = c.cut.ensures.front ∙ ap (λ k. take k text) sign in
    let exponent : c.cut.result.1.now ≡ after_first is_exponent_sign text = c.cut.ensures.back ∙ ap (λ k. drop (k + 1) text) sign in
    let back : c.cut-2.result.1.now ≡ after_first is_point (before_first is_exponent_sign text) =
    c.cut-2.ensures.back ∙ ap (λ k. drop (k + 1) c.cut.result.0.now) c.point_in.ensures.value ∙ ap (after_first is_point) mantissa in
    let far : 2 ^ 100 ≤ unsigned_abs (exponent_of (after_first is_exponent_sign text)) =
    subst (λ t. 2 ^ 100 ≤ unsigned_abs (exponent_of t)) exponent c.in-Some-None.ensures' in
    let count : c.count_digits-decimals.result ≡ length (digits (after_first is_point (before_first is_exponent_sign text))) =
    c.count_digits-decimals.ensures.value ∙ ap (λ t. length (digits t)) back in
    sym (far_scaled
    (digits_value 10 (digits (before_first is_point (before_first is_exponent_sign text)) ++ digits (after_first is_point (before_first is_exponent_sign text))))
    (exponent_of (after_first is_exponent_sign text))
    (length (digits (after_first is_point (before_first is_exponent_sign text)))) far (omega arith))
