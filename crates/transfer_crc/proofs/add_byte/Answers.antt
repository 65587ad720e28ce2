use Rattle.std.proofs.Common.{◌*◌, ◌%◌, ◌∙◌, ap, sym, arith}
use Rattle.std.specs.Int.RustNames.{bit_xor}
use Rattle.transfer_crc.proofs.Linear.{crc_bits-by_table}
use Rattle.transfer_crc.proofs.add_byte.Goals as goal

pub returns : goal.returns
returns c =
    ap (bit_xor (c.args.register % 256 * 256)) c.after_byte.ensures ∙ sym (crc_bits-by_table c.args.register c.args.byte (omega arith))
