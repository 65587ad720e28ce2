use Rattle.std.proofs.Common.{◌-◌, length, sym, arith}
use Rattle.frame_log.proofs.ReadsLemmas.{front-reads}
use Rattle.frame_log.proofs.front.Front.of.Goals as goal

pub invariant_of-result : goal.invariant_of-result
invariant_of-result c =
    let s = c.args.line.now in
    let r = c.in_ok-seconds.rest.now in
    let n = length s - length r in record {
      reads = front-reads s c.in_ok-a.a.now r c.in_ok-seconds.seconds n (sym c.in_ok-a.ensures) (sym c.in_ok-seconds.ensures.value) (omega (arith, c.if-rest-line.false)) (omega (arith, c.if-line-rest-gt16.false))
          (c.is_clean.ensures c.if-not-is_clean.false);
      short = omega (arith, c.if-line-rest-gt16.false);
      bound = c.in_ok-seconds.ensures.bound;
    }
