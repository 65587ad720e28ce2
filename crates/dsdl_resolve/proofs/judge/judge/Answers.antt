use Rattle.std.proofs.Common.{◌∙◌, sym, ap, refl, subst}
use Rattle.dsdl_parse.specs.declared.statement.Statement.TheVariants as statement
use Rattle.dsdl_resolve.specs.Additions.{AreValuesOf}
use Rattle.dsdl_resolve.proofs.Answering.{judged_so, refused_so}
use Rattle.dsdl_resolve.proofs.judge.judge.Goals as goal

pub returns-in-Split-clause-judged : goal.returns-in-Split-clause-judged
returns-in-Split-clause-judged c =
    judged_so c.judge_split.result _ _ (λ j f. λ p said at h. f c.args.scope.now c.args.values.now p said (at ∙ c.in-Split.is) h) c.judge_split.ensures.judged

pub returns-in-Directive-clause-judged : goal.returns-in-Directive-clause-judged
returns-in-Directive-clause-judged c =
    let valued = subst (λ s. AreValuesOf s c.args.values.now) c.in-Directive.is c.requires.values in
    judged_so c.judge_directive.result _ _
    (λ j f. λ p said at h. f c.args.scope.now c.args.values.now c.in-Directive.expr refl valued p said
    (at ∙ c.in-Directive.is ∙ ap (λ n. statement.Directive n c.in-Directive.expr) (sym c.as_str.ensures)) h) c.judge_directive.ensures.judged

pub returns-in-Directive-clause-refused : goal.returns-in-Directive-clause-refused
returns-in-Directive-clause-refused c =
    let valued = subst (λ s. AreValuesOf s c.args.values.now) c.in-Directive.is c.requires.values in
    refused_so c.judge_directive.result _ _
    (λ j f. λ p said at h. f c.args.scope.now c.args.values.now c.in-Directive.expr refl valued p said
    (at ∙ c.in-Directive.is ∙ ap (λ n. statement.Directive n c.in-Directive.expr) (sym c.as_str.ensures)) h) c.judge_directive.ensures.refused

pub returns-in-Constant-clause-judged : goal.returns-in-Constant-clause-judged
returns-in-Constant-clause-judged c =
    judged_so c.judge_constant.result _ _
    (λ j f. λ p said at h. f c.in-Constant.expr p said
    (at ∙ c.in-Constant.is ∙ ap (λ n. statement.Constant c.in-Constant.form n c.in-Constant.expr) (sym c.as_str-in-Constant.ensures)) h) c.judge_constant.ensures.judged

pub returns-in-Constant-clause-refused : goal.returns-in-Constant-clause-refused
returns-in-Constant-clause-refused c =
    refused_so c.judge_constant.result _ _
    (λ j f. λ p said at h. f c.in-Constant.expr p said
    (at ∙ c.in-Constant.is ∙ ap (λ n. statement.Constant c.in-Constant.form n c.in-Constant.expr) (sym c.as_str-in-Constant.ensures)) h) c.judge_constant.ensures.refused

pub returns-in-Field-clause-judged : goal.returns-in-Field-clause-judged
returns-in-Field-clause-judged c =
    judged_so c.judge_field.result _ _
    (λ j f. λ p said at h. f c.args.values.now refl p said (at ∙ c.in-Field.is ∙ ap (λ n. statement.Field c.in-Field.form n) (sym c.as_str-in-Field.ensures)) h) c.judge_field.ensures.judged

pub returns-in-Padding-clause-judged : goal.returns-in-Padding-clause-judged
returns-in-Padding-clause-judged c =
    judged_so c.judge_padding.result _ _
    (λ j f. λ p said at h. f c.args.scope.now c.args.values.now p said (at ∙ c.in-Padding.is ∙ ap (λ n. statement.Padding n) (sym c.as_str-in-Padding.ensures)) h) c.judge_padding.ensures.judged
