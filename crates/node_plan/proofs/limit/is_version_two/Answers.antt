use Rattle.std.proofs.Common.{◌∙◌, ◌^◌, ◌-◌, ap, sym, arith, drop, length, length-drop}
use Rattle.std.proofs.lemmas.List.{take_all}
use Rattle.node_plan.specs.Limit.{is_plan_two}
use Rattle.node_plan.proofs.LimitLemmas.{begins_two-end, begins_two-line, begins_two-next}
use Rattle.node_plan.proofs.limit.is_version_two.Goals as goal

pub returns-in-None : goal.returns-in-None
returns-in-None c = c.is_plan_two.ensures
    ∙ ap is_plan_two (take_all (length c.args.text.now - c.loop-i.i) (drop c.loop-i.i c.args.text.now) (omega (arith, length-drop c.loop-i.i c.args.text.now)))
    ∙ sym (begins_two-line c.loop-i.comment (2 ^ 20) c.loop-i.i c.args.text.now (omega arith) (omega arith) (sym c.skips.ensures ∙ c.in-None.is))
    ∙ sym c.loop-i.invariant

pub loop-i-preserved : goal.loop-i-preserved
loop-i-preserved c = c.loop-i.invariant
    ∙ begins_two-next c.loop-i.comment c.in-Some.next (2 ^ 20) c.loop-i.i c.args.text.now (omega arith) (omega arith) (sym c.skips.ensures ∙ c.in-Some.is)

pub returns : goal.returns
returns c = sym (c.loop-i.invariant ∙ begins_two-end c.loop-i.comment (2 ^ 20) c.loop-i.i c.args.text.now (grind arith))
