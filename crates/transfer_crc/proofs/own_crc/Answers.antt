use Rattle.transfer_crc.proofs.Own.{crc_of-own}
use Rattle.transfer_crc.proofs.own_crc.Goals as goal

pub returns : goal.returns
returns c = crc_of-own
