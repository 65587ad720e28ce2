use Rattle.std.proofs.Common.{◌-◌, length, sym, arith}
use Rattle.line_order.proofs.FrontLemmas.{front-is}
use Rattle.line_order.proofs.front.Front.of.Goals as goal

pub invariant_of-result : goal.invariant_of-result
invariant_of-result c =
    let s = c.args.line.now in
    let r = c.in_ok-seconds.behind.now in
    let n = length s - length r in record {
      is = front-is s c.in_ok-digits.digits.now r c.in_ok-seconds.seconds n (sym c.in_ok-digits.ensures) (sym c.in_ok-seconds.ensures.value) (omega (arith, c.if-behind-line.false)) (omega (arith, c.if-line-behind-gt16.false));
      short = omega (arith, c.if-line-behind-gt16.false);
      bound = c.in_ok-seconds.ensures.bound;
    }
