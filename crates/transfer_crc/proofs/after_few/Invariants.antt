use Rattle.std.proofs.Common.{◌≡◌, take}
use Rattle.transfer_crc.specs.Crc.{crc_more}
use Rattle.transfer_crc.proofs.after_few.Given as goal

abbrev pub invariant-loop-byte : goal.invariant-loop-byte
invariant-loop-byte l = l.after ≡ crc_more l.register (take l.byte-index l.bytes)
