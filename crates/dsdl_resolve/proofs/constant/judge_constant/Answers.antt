use Rattle.std.proofs.Common.{◌∙◌, sym, ap}
use Rattle.dsdl_resolve.specs.Rules.{is_no_message}
use Rattle.dsdl_resolve.proofs.ConstantJudged.{named_refused, message_refused, value_refused}
use Rattle.dsdl_resolve.proofs.constant.judge_constant.Goals as goal

pub returns-in-Some-clause-refused : goal.returns-in-Some-clause-refused
returns-in-Some-clause-refused c = λ x p said at h.
    named_refused c.args.scope.now p said c.args.values.now c.args.form.now c.args.name.now x at c.in-Some.number (c.in-Some.ensures.rule p said h)

pub returns-then-branch-clause-refused : goal.returns-then-branch-clause-refused
returns-then-branch-clause-refused c = λ x p said at h.
    message_refused c.args.scope.now p said c.args.values.now c.args.form.now c.args.name.now x at (c.in_default.ensures.rule p said h)
    (ap (λ b. is_no_message c.args.scope.now b c.args.form.now.scalar) (sym c.is_some.ensures) ∙ sym c.in_ok-is_no_message.ensures ∙ c.if-branch.true)

pub returns-in-Some-constant_rule-clause-refused : goal.returns-in-Some-constant_rule-clause-refused
returns-in-Some-constant_rule-clause-refused c = λ x p said at h.
    value_refused c.args.scope.now p said c.args.values.now c.args.form.now c.args.name.now x at (c.in_default.ensures.rule p said h)
    (ap (λ b. is_no_message c.args.scope.now b c.args.form.now.scalar) (sym c.is_some.ensures) ∙ sym c.in_ok-is_no_message.ensures ∙ c.if-branch.false)
    c.in-Some-constant_rule.number c.in-Some-constant_rule.ensures.rule
