use Rattle.std.proofs.Common.{◌∙◌, ◌<◌, ap, arith, length, subst, sym}
use Rattle.std.specs.Prelude.{Err}
use Rattle.node_plan.specs.Draft.{start}
use Rattle.node_plan.specs.Line.{Says}
use Rattle.node_plan.specs.Plan.{Bad, Ends, Goes}
use Rattle.node_plan.specs.Words.{parts_of}
use Rattle.node_plan.proofs.PlanLemmas.{answer_of_answer, answer_of_error, answer_of_residual, goes-last, goes-next, goes-refused}
use Rattle.node_plan.proofs.read.read_lines.Goals as goal

pub loop-line-preserved : goal.loop-line-preserved
loop-line-preserved c = record {
  plan = λ is g. c.loop-line.invariant.plan is
      (subst (λ ps. Goes c.args.names.now c.args.is_long c.loop-line.draft c.loop-line.n ps is) (sym c.in-Some.ensures.parts)
      (goes-next c.args.names.now c.args.is_long c.loop-line.draft c.take.new.self c.loop-line.n c.in-Some.line.now c.in-Some.rest.now c.in_ok-said.said
      (subst (λ two. Says c.args.names.now two c.in-Some.line.now c.in_ok-said.said) c.is_two.ensures c.in_ok-said.ensures.value) c.in_ok-take.ensures.value is g));
  sound = c.take.ensures.sound;
  few = let shorter : length c.in-Some.rest.now < length c.loop-line.behind.now = c.in-Some.ensures.shorter in omega arith;
}

pub returns-in_err-take-clause-value : goal.returns-in_err-take-clause-value
returns-in_err-take-clause-value c =
    answer_of_residual (Goes c.args.names.now c.args.is_long start 1 (parts_of 10 c.args.text.now)) c.from_residual-in_err-take.result _ c.from_residual-in_err-take.ensures.1
    (λ e same. answer_of_error (Goes c.args.names.now c.args.is_long start 1 (parts_of 10 c.args.text.now)) _ c.loop-line.n c.take.new.self c.take.result e c.take.ensures.value (c.in_err-take.was ∙ ap Err (sym same))
    (λ why h. c.loop-line.invariant.plan (Bad c.loop-line.n why)
    (subst (λ ps. Goes c.args.names.now c.args.is_long c.loop-line.draft c.loop-line.n ps (Bad c.loop-line.n why)) (sym c.in-Some.ensures.parts)
    (goes-refused c.args.names.now c.args.is_long c.loop-line.draft c.loop-line.n why c.in-Some.line.now c.in-Some.rest.now c.in_ok-said.said
    (subst (λ two. Says c.args.names.now two c.in-Some.line.now c.in_ok-said.said) c.is_two.ensures c.in_ok-said.ensures.value) h))))

pub returns-clause-value : goal.returns-clause-value
returns-clause-value c =
    answer_of_answer (Ends c.args.names.now c.args.is_long c.loop-line.draft c.loop-line.n c.loop-line.behind.now) (Goes c.args.names.now c.args.is_long start 1 (parts_of 10 c.args.text.now))
    (λ is h. c.loop-line.invariant.plan is (goes-last c.args.names.now c.args.is_long c.loop-line.draft c.loop-line.n c.loop-line.behind.now (parts_of 10 c.loop-line.behind.now) c.in_default.ensures.parts is h))
    c.read_last.result c.read_last.ensures.value
