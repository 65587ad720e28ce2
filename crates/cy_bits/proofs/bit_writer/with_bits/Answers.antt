use Rattle.std.proofs.Common.{ap, ◌∙◌, arith}
use Rattle.cy_bits.specs.Bits.{bits_of}
use Rattle.cy_bits.specs.Put.{put_bits}
use Rattle.cy_bits.proofs.BitPuts.{made_below, made_bits}
use Rattle.cy_bits.proofs.bit_writer.with_bits.Goals as goal

pub overflow_cast-result : goal.overflow_cast-result
overflow_cast-result c =
    let small = made_below c.args.from c.args.count c.args.value c.from-old.result c.requires.few (omega arith) in
    omega (arith, small)

pub returns : goal.returns
returns c =
    made_bits c.args.from c.args.count c.args.value c.from-old.result c.requires.few (omega arith)
    ∙ ap (λ x. put_bits (bits_of 8 x) c.args.from (bits_of c.args.count c.args.value)) c.from-old.ensures
