use Rattle.std.proofs.Common.{◌++◌, length, map, refl, ap, ◌∙◌, arith}
use Rattle.tx_queue.specs.Waiting.{out_frame}
use Rattle.tx_queue.proofs.Counts.{needed_is}
use Rattle.tx_queue.proofs.queue.TxQueue.push_transfer.Goals as goal

pub returns-then-needed-free-clause-needed : goal.returns-then-needed-free-clause-needed
returns-then-needed-free-clause-needed c = needed_is c.args.mtu c.args.payload.now c.args.tid c.count-needed.result (c.count-needed.ensures c.args.payload.now refl)

pub returns-then-needed-free-clause-full : goal.returns-then-needed-free-clause-full
returns-then-needed-free-clause-full c =
    let count = returns-then-needed-free-clause-needed c in (λ _. omega (arith, count, c.if-needed-free.true, c.len.ensures), λ _. refl)

pub loop-bytes-init : goal.loop-bytes-init
loop-bytes-init c =
    let count = needed_is c.args.mtu c.args.payload.now c.args.tid c.count-needed.result (c.count-needed.ensures c.args.payload.now refl) in
    let all = c.into_iter-bytes-iterator.ensures.into_iter_gives ∙ c.new-bytes-items.ensures in
    record {
      frames = ap (λ xs. c.args.self.now.waiting.items ++ map (out_frame c.args.ident) xs) all;
      room = (let size = ap length all in omega (arith, size, count, c.if-needed-free.false, c.len.ensures));
      places = refl;
    }
