use Rattle.std.proofs.Common.{◌≡◌, ◌+◌, ◌-◌, ◌/◌, ◌^◌, ◌∙◌, ap, sym, arith}
use Rattle.cy_bits.specs.Bits.{bits, bits_of}
use Rattle.cy_bits.specs.Put.{put_bits}
use Rattle.cy_bits.proofs.BitPlaces.{length_bits}
use Rattle.cy_bits.proofs.BitPuts.{put_step, put_end}
use Rattle.cy_bits.proofs.bit_writer.BitWriter.put_bits.Goals as goal

pub loop-left-preserved : goal.loop-left-preserved
loop-left-preserved c =
    let k = c.min-count.result in
    let b = c.loop-left.buf in
    let moved : c.loop-left.self.place + c.from.result ≡ c.loop-left.self.place + k = ap (λ m. c.loop-left.self.place + m) c.from.ensures in
    let step = put_step (bits b) (bits c.put_in_byte.new.buf) c.loop-left.self.place k c.loop-left.left c.loop-left.rest (omega arith) (omega (arith, length_bits b, c.loop-left.invariant.place, c.loop-left.invariant.size)) c.put_in_byte.ensures in
    record {
      place = omega (arith, c.loop-left.invariant.place);
      left = omega arith;
      size = omega (arith, c.loop-left.invariant.size);
      written = ap (λ p. put_bits (bits c.put_in_byte.new.buf) p (bits_of (c.loop-left.left - k) (c.loop-left.rest / 2 ^ k))) moved ∙ step ∙ c.loop-left.invariant.written;
    }

pub returns-clause-written : goal.returns-clause-written
returns-clause-written c =
    sym (put_end (bits c.loop-left.buf) c.loop-left.self.place c.loop-left.left c.loop-left.rest (omega arith)) ∙ c.loop-left.invariant.written
