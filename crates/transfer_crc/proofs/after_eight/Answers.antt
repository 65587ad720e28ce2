use Rattle.std.proofs.Common.{◌∙◌, sym, ap₂, arith}
use Rattle.std.specs.Int.RustNames.{bit_xor}
use Rattle.transfer_crc.proofs.Blocks.{eight}
use Rattle.transfer_crc.proofs.after_eight.Goals as goal

pub returns : goal.returns
returns c = ap₂ bit_xor (ap₂ bit_xor (ap₂ bit_xor (ap₂ bit_xor (ap₂ bit_xor (ap₂ bit_xor (ap₂ bit_xor c.after_byte.ensures c.after_byte_and_one.ensures) c.after_byte_and_two.ensures) c.after_byte_and_three.ensures) c.after_byte_and_four.ensures) c.after_byte_and_five.ensures) c.after_byte_and_six.ensures) c.after_byte_and_seven.ensures ∙ sym (eight c.args.register c.args.bytes.now (omega arith) c.requires)
