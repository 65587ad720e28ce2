use Rattle.std.proofs.Common.{◌≡◌, ◌∙◌, ℕ, ◌+◌, ◌^◌, ◌<◌, ◌≤◌, All, List, [], ◌∷◌, ◌++◌, None, get_or, length, take, sym, ap, subst, arith}
use Rattle.std.proofs.lemmas.List.{get_or_default, length-take}
use Rattle.node_plan.specs.Ports.{IsPort, PlanPort, port_of_service, ports, service_extent, services}
use Rattle.node_plan.specs.declared.plan.Plan.{Plan}
use Rattle.node_plan.specs.declared.services.Service.{Service}
use Rattle.rx_table.specs.declared.table.Table.{Table}
use Rattle.node_core.specs.Tables.{IsTableOf}
use Rattle.node_core.specs.declared.port_shape.PortShape.{PortShape}
use Rattle.node_core.proofs.Tables.{count_of, count_of_ports, not_taken, of_service, one_more, same_port}
use Rattle.node_core.proofs.ports.subscribe_services.Goals as goal

-- an item of a list that is the services
item_is : (plan : Plan) (items : List Service) (n : ℕ) (d : Service) → items ≡ services plan → n < length items → get_or items n d ≡ get_or (services plan) n (get_or items n d)
item_is plan items n d e within =
    get_or_default items n d (get_or items n d) within ∙ ap (λ (t : List Service). get_or t n (get_or items n d)) e

-- a port that is among others
is_small : (ps : List PlanPort) (n : ℕ) (p : PlanPort) → All IsPort ps → p ≡ get_or ps n p → n < length ps → p.extent ≤ 65536
is_small ps n p fit is within =
    let here : IsPort p = subst IsPort (sym is) (fit n p within) in
    here.extent

-- so few ports
few : (timeout : ℕ) (ps : List PlanPort) (n : ℕ) (table : Table PortShape) → IsTableOf timeout (take n ps) table → n < 2 ^ 16 → length table.ports.items < 2 ^ 16
few timeout ps n table h small = omega (arith, count_of timeout (take n ps) table h, length-take n ps)

pub subscribe-requires-clause-small : goal.subscribe-requires-clause-small
subscribe-requires-clause-small c =
    let plan = c.args.plan.now in
    let n = c.loop-service.service-index in
    let items = c.as_slice-service-items.result.now in
    let service = get_or items n (record { port = 0; sources = 0; request = None }) in
    let e : items ≡ services plan = c.as_slice-service-items.ensures.value ∙ c.services.ensures.value in
    let within : n < length (services plan) = omega (arith, c.loop-service-test.true, ap length e) in
    let small : service_extent service ≤ 65536 =
    is_small (ports plan) (length plan.subs + n) (port_of_service service) (c.ports_are_fit.ensures.fit plan c.requires.plan)
    (of_service plan n service (item_is plan items n (record { port = 0; sources = 0; request = None }) e c.loop-service-test.true) within) (omega (arith, within, count_of_ports plan)) in
    subst (λ k. k ≤ 65536) (sym c.in_ok-shape.ensures.extent) small

pub subscribe-requires-clause-room : goal.subscribe-requires-clause-room
subscribe-requires-clause-room c =
    let plan = c.args.plan.now in
    let n = c.loop-service.service-index in
    let items = c.as_slice-service-items.result.now in
    let e : items ≡ c.services.result = c.as_slice-service-items.ensures.value in
    let short : length c.services.result ≤ 8 = c.as_slice-service-items.ensures.short in
    few plan.timeout (ports plan) (length plan.subs + n) c.loop-service.table c.loop-service.invariant
    (omega (arith, c.requires.plan.few_subs, c.loop-service-test.true, ap length e, short))

pub subscribe-requires-clause-other : goal.subscribe-requires-clause-other
subscribe-requires-clause-other c =
    let plan = c.args.plan.now in
    let n = c.loop-service.service-index in
    let items = c.as_slice-service-items.result.now in
    let service = get_or items n (record { port = 0; sources = 0; request = None }) in
    let e : items ≡ services plan = c.as_slice-service-items.ensures.value ∙ c.services.ensures.value in
    let within : n < length (services plan) = omega (arith, c.loop-service-test.true, ap length e) in
    not_taken plan.timeout (ports plan) (length plan.subs + n) (port_of_service service) c.loop-service.table
    (of_service plan n service (item_is plan items n (record { port = 0; sources = 0; request = None }) e c.loop-service-test.true) within) (omega (arith, within, count_of_ports plan))
    (c.ports_are_fit.ensures.differ plan c.requires.plan) c.loop-service.invariant

pub loop-service-preserved : goal.loop-service-preserved
loop-service-preserved c =
    let plan = c.args.plan.now in
    let n = c.loop-service.service-index in
    let items = c.as_slice-service-items.result.now in
    let service = get_or items n (record { port = 0; sources = 0; request = None }) in
    let e : items ≡ services plan = c.as_slice-service-items.ensures.value ∙ c.services.ensures.value in
    let within : n < length (services plan) = omega (arith, c.loop-service-test.true, ap length e) in
    let made = same_port (port_of_service service) c.in_ok-shape.shape c.in_ok-shape.ensures.extent c.in_ok-shape.ensures.port_type in
    let next : length plan.subs + n + 1 ≡ length plan.subs + (n + 1) = omega arith in
    subst (λ k. IsTableOf plan.timeout (take k (ports plan)) c.subscribe.new.table) next
    (one_more plan.timeout (ports plan) (length plan.subs + n) (port_of_service service) c.subscribe.new.table
    (of_service plan n service (item_is plan items n (record { port = 0; sources = 0; request = None }) e c.loop-service-test.true) within) (omega (arith, within, count_of_ports plan))
    (subst (λ (p : PlanPort). IsTableOf plan.timeout (take (length plan.subs + n) (ports plan) ++ p ∷ []) c.subscribe.new.table) made
    (c.in_ok-subscribe.ensures plan.timeout (take (length plan.subs + n) (ports plan)) c.loop-service.invariant)))
