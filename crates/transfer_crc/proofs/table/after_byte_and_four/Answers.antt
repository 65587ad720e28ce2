use Rattle.std.proofs.Common.{ℕ, refl, arith}
use Rattle.transfer_crc.specs.declared.table.TheConstants.{AFTER_BYTE_AND_FOUR}
use Rattle.transfer_crc.specs.Crc.{crc_bits, after_zeros}
use Rattle.transfer_crc.proofs.Tables.{from_table}
use Rattle.transfer_crc.proofs.table.after_byte_and_four.Goals as goal

pub returns : goal.returns
returns c = from_table AFTER_BYTE_AND_FOUR (λ (x : ℕ). after_zeros 4 (crc_bits 8 0 x)) c.args.byte (omega arith) refl
