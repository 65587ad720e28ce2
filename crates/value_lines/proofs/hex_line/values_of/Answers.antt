use Rattle.std.proofs.Common.{◌≡◌, ◌∙◌, map, ℕ, subst}
use Rattle.value_lines.proofs.HexLanes.{vector, lane, whole, lanes_are}
use Rattle.value_lines.proofs.hex_line.values_of.Goals as goal

pub returns : goal.returns
returns c = subst (λ (n : ℕ). vector c.args.c n ≡ map lane c.args.c) c.fits-c.0 (whole c.args.c) ∙ lanes_are c.args.c c.fits-c.1
