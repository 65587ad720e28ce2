use Rattle.frame_log.proofs.HexPairs.{pairs_by_hex}
use Rattle.frame_log.proofs.laws.hex_pairs.Goals as goal

pub returns : goal.returns
returns c = pairs_by_hex
