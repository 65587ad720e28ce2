use Rattle.std.proofs.Common.{◌+◌, ◌-◌, length, take, drop, arith}
use Rattle.frame_log.proofs.PairLemmas.{rest-is}
use Rattle.line_order.proofs.PlainLemmas.{plain-at}
use Rattle.line_order.proofs.plain.plain.Goals as goal

pub returns : goal.returns
returns c =
    let s = c.args.line.now in
    let k = c.args.front.now.len in
    let n = c.in_ok-n.n in
    let behind = take (length s - k) (drop k s) in
    let name = take (length behind - 8) (drop 8 behind) in
    let rest = take (length name - (n + 1)) (drop (n + 1) name) in
    plain-at s behind name rest k n c.args.front.now.seconds c.in_ok-micros.micros (c.is_at.ensures c.if-not-is_at.false) (rest-is k s) c.in_ok-micros.ensures.is c.in_ok-micros.ensures.long (rest-is 8 behind) c.in_ok-n.ensures.is (rest-is (n + 1) name)
    (omega (arith, c.if-k-eq0.false)) c.if-rest-eq32.false c.if-rest-k-eq13.false
