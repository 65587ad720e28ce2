use Rattle.std.proofs.Common.{◌≡◌, ◌*◌, take}
use Rattle.transfer_crc.specs.Crc.{crc_more}
use Rattle.transfer_crc.proofs.Crc.add.Given as goal

abbrev pub invariant-loop-block : goal.invariant-loop-block
invariant-loop-block l = l.self-inside.register ≡ crc_more l.fn.self (take (8 * l.block) l.bytes)
