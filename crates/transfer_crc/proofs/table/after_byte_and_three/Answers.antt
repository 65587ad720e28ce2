use Rattle.std.proofs.Common.{ℕ, refl, arith}
use Rattle.transfer_crc.specs.declared.table.TheConstants.{AFTER_BYTE_AND_THREE}
use Rattle.transfer_crc.specs.Crc.{crc_bits, after_zeros}
use Rattle.transfer_crc.proofs.Tables.{from_table}
use Rattle.transfer_crc.proofs.table.after_byte_and_three.Goals as goal

pub returns : goal.returns
returns c = from_table AFTER_BYTE_AND_THREE (λ (x : ℕ). after_zeros 3 (crc_bits 8 0 x)) c.args.byte (omega arith) refl
