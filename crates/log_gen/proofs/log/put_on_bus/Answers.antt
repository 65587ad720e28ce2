use Rattle.std.proofs.Common.{◌≡◌, ◌++◌, length, sym, ap, ◌∙◌, arith}
use Rattle.line_text.specs.Buffer.{text_of}
use Rattle.frag.specs.Wire.{frames}
use Rattle.log_gen.specs.Rows.{copies, row, tid_of}
use Rattle.log_gen.specs.Rules.{line_of, payload_of, times}
use Rattle.log_gen.proofs.Counts.{frames_left, frames_count, few_frames, first_frame}
use Rattle.log_gen.proofs.Texts.{line_at, next_frame}
use Rattle.log_gen.proofs.log.put_on_bus.Goals as goal

pub loop-bytes-init : goal.loop-bytes-init
loop-bytes-init c =
    let payload = payload_of c.args.number c.args.transfer in
    let tid = tid_of c.args.transfer in
    let all : c.into_iter-bytes-iterator.result ≡ frames 8 payload tid =
    c.into_iter-bytes-iterator.ensures.into_iter_gives ∙ c.new-bytes-items.ensures
    ∙ ap (λ s. frames 8 s tid) (c.as_slice.ensures.value ∙ c.payload_of-payload.ensures.value) in
    record {
      left = frames_left 8 payload tid c.into_iter-bytes-iterator.result all;
      count = (let e = ap length all ∙ frames_count 8 payload tid in omega arith);
      text = λ past h. h;
    }

pub overflow_add-frame : goal.overflow_add-frame
overflow_add-frame c =
    let few = few_frames (payload_of c.args.number c.args.transfer) (simp (sym c.payload_of-payload.ensures.value) c.payload_of-payload.ensures.few) in omega (arith, c.loop-bytes.invariant.count)

pub loop-bytes-preserved : goal.loop-bytes-preserved
loop-bytes-preserved c =
    let payload = payload_of c.args.number c.args.transfer in
    let tid = tid_of c.args.transfer in
    let first = first_frame 8 payload tid c.loop-bytes.frame c.in-Some.bytes c.loop-bytes.bytes-iterator c.next.new.self c.loop-bytes.invariant.left c.in-Some.ensures.steps in
    let r = row c.args.transfer c.args.bus c.loop-bytes.frame in
    let frames_here = copies c.way_of-way.result c.loop-bytes.frame in
    record {
      left = first.1;
      count = (let e = ap length c.in-Some.ensures.steps in omega (arith, c.loop-bytes.invariant.count));
      text = λ past h.
          c.in_ok-put_copies.ensures {u = tt} ∙ ap (λ n. text_of c.loop-bytes.text ++ times n (line_of r c.as_slice-in-loop-bytes.result.now)) c.copies.ensures.value
          ∙ ap (λ s. text_of c.loop-bytes.text ++ times frames_here (line_of r s)) (c.as_slice-in-loop-bytes.ensures.value ∙ first.0)
          ∙ ap (λ s. s ++ times frames_here (line_at c.args.number r)) (c.loop-bytes.invariant.text past h)
          ∙ sym (next_frame c.args.number c.way_of-way.result c.args.transfer c.args.bus c.loop-bytes.frame past);
    }
