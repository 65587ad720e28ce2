use Rattle.std.proofs.Common.{◌≡◌, length, ap, arith}
use Rattle.line_text.specs.Buffer.{text_of}
use Rattle.line_order.proofs.Rows.{first_size, popped}
use Rattle.line_order.proofs.line_queue.LineQueue.pop.Goals as goal

pub overflow_add-end : goal.overflow_add-end
overflow_add-end c =
    let q = c.args.self.now in
    let le = first_size q.lines.items q.first q.start c.index.result.now (text_of q.text) (omega (arith, c.if-self-len.false)) c.index.ensures q.bytes in
    let same : length c.as_slice-text.result.now ≡ length (text_of q.text) = ap length c.as_slice-text.ensures in omega (arith, le, same, c.as_slice-text.type_inv)

pub returns : goal.returns
returns c =
    let q = c.args.self.now in
    popped q.lines.items c.index.result.now q.first q.start (text_of q.text) c.as_slice-text.result.now (text_of c.args.gathered.now) (text_of c.push.new.self) (omega (arith, c.if-self-len.false)) c.index.ensures c.as_slice-text.ensures c.in_ok-push.ensures.ok
