use Rattle.transfer_crc.proofs.Rows.{crc_more-append}
use Rattle.transfer_crc.proofs.parts.Goals as goal

pub returns : goal.returns
returns c = crc_more-append
