use Rattle.std.proofs.Common.{◌≡◌, ◌∙◌, ◌<◌, List, [], ◌∷◌, ◌++◌, get_or, length, take, ap, subst, arith}
use Rattle.node_plan.specs.Ports.{PlanPort, port_of_sub, ports}
use Rattle.node_plan.specs.declared.plan.Sub.{Sub}
use Rattle.node_core.specs.Tables.{IsTableOf}
use Rattle.node_core.proofs.Tables.{count_of_ports, not_taken, of_sub, one_more, same_port}
use Rattle.node_core.proofs.ports.subscribe_subs.Goals as goal

pub subscribe-requires-clause-other : goal.subscribe-requires-clause-other
subscribe-requires-clause-other c =
    let plan = c.args.plan.now in
    let n = c.loop-sub.sub-index in
    let sub = c.sub-item.result in
    let is : sub ≡ get_or plan.subs n sub = c.sub-item.is ∙ ap (λ (t : List Sub). get_or t n sub) c.as_slice-sub-items.ensures in
    let within : n < length plan.subs = omega (arith, c.loop-sub-test.true, ap length c.as_slice-sub-items.ensures) in
    not_taken plan.timeout (ports plan) n (port_of_sub sub) c.loop-sub.table (of_sub plan n sub is within) (omega (arith, within, count_of_ports plan))
    (c.ports_are_fit.ensures.differ plan c.requires.plan) c.loop-sub.invariant

pub loop-sub-preserved : goal.loop-sub-preserved
loop-sub-preserved c =
    let plan = c.args.plan.now in
    let n = c.loop-sub.sub-index in
    let sub = c.sub-item.result in
    let is : sub ≡ get_or plan.subs n sub = c.sub-item.is ∙ ap (λ (t : List Sub). get_or t n sub) c.as_slice-sub-items.ensures in
    let within : n < length plan.subs = omega (arith, c.loop-sub-test.true, ap length c.as_slice-sub-items.ensures) in
    let made = same_port (port_of_sub sub) c.in_ok-shape.shape c.in_ok-shape.ensures.extent c.in_ok-shape.ensures.port_type in
    one_more plan.timeout (ports plan) n (port_of_sub sub) c.subscribe.new.table (of_sub plan n sub is within) (omega (arith, within, count_of_ports plan))
    (subst (λ (p : PlanPort). IsTableOf plan.timeout (take n (ports plan) ++ p ∷ []) c.subscribe.new.table) made
    (c.in_ok-subscribe.ensures plan.timeout (take n (ports plan)) c.loop-sub.invariant))
