use Rattle.std.proofs.lemmas.Bool.{eqb-true}
use Rattle.value_lines.proofs.HexLanes.{no_bad}
use Rattle.value_lines.proofs.hex_line.are_digits.Goals as goal

pub returns : goal.returns
returns c = λ e. no_bad c.args.values c.fits-values.0 (eqb-true _ 0 e)
