use Rattle.std.proofs.Common.{◌≡◌, ◌∙◌, ◌++◌, ◌∷◌, [], arith}
use Rattle.dsdl_clash.proofs.OrderLemmas.{number_more, reached_none}
use Rattle.dsdl_clash.proofs.numbers.numbers_in_order.Goals as goal

pub loop-i-init : goal.loop-i-init
loop-i-init c = record { within = omega arith; reached = reached_none c.args.definitions.now; numbers = c.new-numbers.ensures.items }

pub loop-i-preserved : goal.loop-i-preserved
loop-i-preserved c =
    let next = c.in-Some.ensures.reached c.loop-i.invariant.reached in
    record {
      within = omega (arith, c.in-Some.ensures.within);
      reached = next.0;
      numbers = c.in_ok-push-in-Some.ensures.items ∙ number_more c.args.definitions.now c.loop-i.i c.in-Some.next c.loop-i.numbers.items c.loop-i-test.true c.loop-i.invariant.numbers next.1;
    }
