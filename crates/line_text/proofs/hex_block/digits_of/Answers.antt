use Rattle.std.proofs.Common.{◌∙◌}
use Rattle.line_text.proofs.HexBlock.{eight, spread_is}
use Rattle.line_text.proofs.hex_block.digits_of.Goals as goal

pub returns : goal.returns
returns c = eight c.args.bytes c.fits-bytes.0 ∙ spread_is c.args.bytes c.fits-bytes.1
