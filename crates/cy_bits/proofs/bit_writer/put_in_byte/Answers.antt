use Rattle.std.proofs.Common.{arith}
use Rattle.cy_bits.specs.Bits.{bits_of}
use Rattle.cy_bits.proofs.BitFacts.{length_bits_of}
use Rattle.cy_bits.proofs.BitPuts.{put_byte}
use Rattle.cy_bits.proofs.bit_writer.put_in_byte.Goals as goal

pub returns : goal.returns
returns c =
    let l = bits_of c.args.count c.args.value in
    put_byte c.args.buf.now c.args.place c.with_bits.result l (omega arith) (omega (arith, length_bits_of c.args.count c.args.value)) c.with_bits.ensures
