use Rattle.std.proofs.Common.{arith}
use Rattle.transfer_crc.proofs.Rows.{crc_more-next}
use Rattle.transfer_crc.proofs.after_few.Goals as goal

pub loop-byte-preserved : goal.loop-byte-preserved
loop-byte-preserved c =
    crc_more-next c.args.register c.loop-byte.byte-index c.args.bytes.now c.loop-byte.after c.add_byte-after.result (omega arith) c.loop-byte.invariant c.add_byte-after.ensures
