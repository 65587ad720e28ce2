use Rattle.std.proofs.Common.{◌≡◌, ◌∙◌, ◌+◌, ap, subst, sym}
use Rattle.std.specs.Prelude.{Err}
use Rattle.node_plan.specs.Line.{Says}
use Rattle.node_plan.specs.Plan.{Ends, finished}
use Rattle.node_plan.proofs.PlanLemmas.{answer_of_answer, answer_of_error, answer_of_residual, ends-long, ends-next, ends-none, ends-refused}
use Rattle.node_plan.proofs.read.read_last.Goals as goal

pub returns-then-is_long-clause-value : goal.returns-then-is_long-clause-value
returns-then-is_long-clause-value c = ends-long c.args.names.now c.args.is_long c.args.draft c.args.n c.args.line.now c.if-is_long.true

pub returns-then-is_empty-clause-value : goal.returns-then-is_empty-clause-value
returns-then-is_empty-clause-value c =
    answer_of_answer (λ is. is ≡ finished c.args.draft c.args.n) (Ends c.args.names.now c.args.is_long c.args.draft c.args.n c.args.line.now)
    (ends-none c.args.names.now c.args.is_long c.args.draft c.args.n c.args.line.now c.if-is_long.false (sym c.is_empty.ensures ∙ c.if-is_empty.true)) c.finished.result c.finished.ensures.value

pub returns-in_err-take-clause-value : goal.returns-in_err-take-clause-value
returns-in_err-take-clause-value c =
    answer_of_residual (Ends c.args.names.now c.args.is_long c.args.draft c.args.n c.args.line.now) c.from_residual-in_err-take.result _ c.from_residual-in_err-take.ensures.1
    (λ e same. answer_of_error (Ends c.args.names.now c.args.is_long c.args.draft c.args.n c.args.line.now) _ c.args.n c.take.new.self c.take.result e c.take.ensures.value (c.in_err-take.was ∙ ap Err (sym same))
    (λ cause h. ends-refused c.args.names.now c.args.is_long c.args.draft c.args.n cause c.args.line.now c.in_ok-said.said c.if-is_long.false (sym c.is_empty.ensures ∙ c.if-is_empty.false)
    (subst (λ two. Says c.args.names.now two c.args.line.now c.in_ok-said.said) c.is_two.ensures c.in_ok-said.ensures.value) h))

pub returns-clause-value : goal.returns-clause-value
returns-clause-value c =
    answer_of_answer (λ is. is ≡ finished c.take.new.self (c.args.n + 1)) (Ends c.args.names.now c.args.is_long c.args.draft c.args.n c.args.line.now)
    (ends-next c.args.names.now c.args.is_long c.args.draft c.take.new.self c.args.n c.args.line.now c.in_ok-said.said c.if-is_long.false (sym c.is_empty.ensures ∙ c.if-is_empty.false)
    (subst (λ two. Says c.args.names.now two c.args.line.now c.in_ok-said.said) c.is_two.ensures c.in_ok-said.ensures.value) c.in_ok-take.ensures.value) c.finished-2.result c.finished-2.ensures.value
