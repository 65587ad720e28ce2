use Rattle.std.proofs.Common.{◌∙◌, sym, ap₂, arith}
use Rattle.std.specs.Int.RustNames.{bit_xor}
use Rattle.transfer_crc.proofs.Blocks.{seven}
use Rattle.transfer_crc.proofs.after_seven.Goals as goal

pub returns : goal.returns
returns c = ap₂ bit_xor (ap₂ bit_xor (ap₂ bit_xor (ap₂ bit_xor (ap₂ bit_xor (ap₂ bit_xor c.after_byte.ensures c.after_byte_and_one.ensures) c.after_byte_and_two.ensures) c.after_byte_and_three.ensures) c.after_byte_and_four.ensures) c.after_byte_and_five.ensures) c.after_byte_and_six.ensures ∙ sym (seven c.args.register c.args.bytes.now (omega arith) c.requires)
