use Rattle.std.proofs.Common.{◌++◌, arith, length-append}
use Rattle.std.proofs.lemmas.Simd.{pick_l_whole}
use Rattle.value_put.proofs.name.joined_of_eight.Goals as goal

pub returns : goal.returns
returns c = pick_l_whole 0 (c.args.first ++ c.args.last) 16 (omega (arith, length-append c.args.first c.args.last, c.fits-first.0, c.fits-last.0))
