use Rattle.std.proofs.Common.{◌-◌, ◌*◌, ◌+◌, take, drop, length, arith}
use Rattle.frame_log.specs.Line.{Frame}
use Rattle.frame_log.proofs.PairLemmas.{rest-is}
use Rattle.frame_log.proofs.ReadsLemmas.{IsSeen, seen-is}
use Rattle.frame_log.proofs.quick.quick.Goals as goal

seen : (c : goal.In_ok-count) → IsSeen c.args.buses.now c.args.window.now (c.args.front.now.len + 8 + c.in_ok-bus.n + 9 + c.in_ok-count.count)
    (Frame (c.args.front.now.seconds * 1_000_000 + c.in_ok-micros.micros) c.in_ok-bus.bus c.in_ok-ident.ident c.data_at.new.bytes)
seen c =
    let w = c.args.window.now in
    let k = c.args.front.now.len in
    let n = c.in_ok-bus.n in
    let m = c.in_ok-count.count in
    let s1 = take (length w - k) (drop k w) in
    let s2 = take (length s1 - 8) (drop 8 s1) in
    let s3 = take (length s2 - n) (drop n s2) in
    let s4 = take (length s3 - 9) (drop 9 s3) in
    seen-is c.args.buses.now w s1 s2 s3 s4 c.data_at.new.bytes k n m _ c.args.front.now.seconds c.in_ok-micros.micros c.in_ok-bus.bus c.in_ok-ident.ident
    (rest-is k w) (rest-is 8 s1) (rest-is n s2) (rest-is 9 s3)
    (c.is_at.ensures c.if-not-is_at.false) c.in_ok-micros.ensures.reads c.in_ok-bus.ensures.reads c.in_ok-ident.ensures c.if-ident-gt536870911.false c.in_ok-count.ensures.data (omega arith)
    (omega (arith, c.args.front.now.short, c.in_ok-bus.ensures.short, c.in_ok-count.ensures.near, c.requires.wide)) c.requires.wide

pub returns-clause-line : goal.returns-clause-line
returns-clause-line c = (seen c).line

pub returns-clause-said : goal.returns-clause-said
returns-clause-said c = (seen c).said_is
