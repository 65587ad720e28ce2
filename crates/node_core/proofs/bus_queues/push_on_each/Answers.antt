use Rattle.std.proofs.Common.{◌≡◌, ◌∙◌, ◌<◌, length, map, sym, ap, arith, length-append}
use Rattle.std.specs.Option.{option_to_list}
use Rattle.node_core.specs.Buses.{queue_of}
use Rattle.node_core.specs.Queues.{full_line, push}
use Rattle.node_core.specs.Transfers.{sends_of}
use Rattle.node_core.specs.declared.bus_queue.BusQueue.{BusQueue}
use Rattle.report_lines.specs.declared.line.Line.TheVariants.{Full}
use Rattle.node_core.proofs.Queues.{at_most_one, pushed_more, told_more}
use Rattle.node_core.proofs.bus_queues.push_on_each.Goals as goal

pub loop-bus-preserved : goal.loop-bus-preserved
loop-bus-preserved c =
    let x = sends_of c.args.transfer.now in
    let qs = map queue_of c.args.buses.now in
    let old = c.index-buses-bus.result in
    let within : c.loop-bus.bus < length c.loop-bus.buses = omega (arith, c.loop-bus-test.true, c.loop-bus.auto.buses) in
    let is = c.index-buses-bus.is in
    let pushes : queue_of c.push.new.self ≡ push x (queue_of old) = c.push.ensures.queue ∙ ap (λ (b : BusQueue). push x (queue_of b)) (sym is) in
    let more = option_to_list c.push.result in
    record {
      queues = pushed_more x qs c.loop-bus.buses c.loop-bus.bus old c.push.new.self c.loop-bus.invariant.queues within is pushes;
      fulls =
          ap (map Full) c.put.ensures
          ∙ told_more x qs c.loop-bus.buses c.loop-bus.bus old c.push.new.self c.loop-bus.invariant.queues within is pushes c.args.moment c.loop-bus.fulls more
          c.loop-bus.invariant.fulls (c.push.ensures.full ∙ ap (λ (b : BusQueue). full_line c.args.moment c.loop-bus.bus x (queue_of b)) (sym is));
      few = omega (arith, c.loop-bus.invariant.few, ap length c.put.ensures, length-append c.loop-bus.fulls more, at_most_one c.push.result);
    }
