use Rattle.std.proofs.Common.{refl, arith}
use Rattle.transfer_crc.specs.declared.table.TheConstants.{AFTER_BYTE}
use Rattle.transfer_crc.specs.Crc.{crc_bits}
use Rattle.transfer_crc.proofs.Tables.{from_table}
use Rattle.transfer_crc.proofs.table.after_byte.Goals as goal

pub returns : goal.returns
returns c = from_table AFTER_BYTE (crc_bits 8 0) c.args.byte (omega arith) refl
