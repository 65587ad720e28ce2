use Rattle.std.proofs.Common.{◌∙◌, ap}
use Rattle.cy_bits.specs.Bits.{bits, gap}
use Rattle.cy_bits.specs.Put.{put_bits}
use Rattle.cy_bits.proofs.BitPuts.{zero_bits}
use Rattle.cy_bits.proofs.bit_writer.BitWriter.align.Goals as goal

pub returns-clause-written : goal.returns-clause-written
returns-clause-written c =
    c.put_bits.ensures.written ∙ ap (λ l. put_bits (bits c.args.buf.now) c.args.self.now.place l) (zero_bits (gap c.args.self.now.place))
