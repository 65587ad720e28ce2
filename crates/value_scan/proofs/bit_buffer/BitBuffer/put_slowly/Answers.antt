use Rattle.std.proofs.Common.{◌∙◌, ◌++◌, ◌≤◌, length, take, drop, take_at, ◌≡◌, sym, ap, arith}
use Rattle.cy_bits.specs.Bits.{bits, bits_of}
use Rattle.cy_bits.proofs.BitPlaces.{length_bits}
use Rattle.wire_values.proofs.PutAnswers.{put_done}
use Rattle.value_scan.proofs.Steps.{more_written}
use Rattle.value_scan.proofs.bit_buffer.BitBuffer.put_slowly.Goals as goal

pub returns-clause-bits : goal.returns-clause-bits
returns-clause-bits c =
    let old = c.as_mut_slice.result.now in
    let same = c.as_mut_slice.ensures.value in
    let p = c.args.self.now.place in
    let d = put_done c.put.result (sym c.is_err.ensures.value ∙ c.if-is_err.false) old c.put.new.buf p c.put.new.self.place c.args.width c.args.value c.put.ensures.place c.put.ensures.written in
    let h : p ≤ length (bits old) = omega (arith, length_bits old, c.args.self.now.within, ap length same) in
    let size : length c.put.new.buf ≡ c.args.self.now.bytes.len = omega (arith, c.put.auto.buf, c.as_mut_slice.ensures.len, ap length same) in
    ap (λ xs. take c.put.new.self.place (bits xs)) (take_at c.put.new.buf (drop (length c.put.new.buf) c.args.self.now.bytes.items) c.args.self.now.bytes.len size)
    ∙ more_written (bits old) (bits c.put.new.buf) p c.put.new.self.place (bits_of c.args.width c.args.value) h d.place d.written
    ∙ ap (λ b. take p (bits b) ++ bits_of c.args.width c.args.value) same
