use Rattle.std.proofs.Common.{eqb, arith, w8}
use Rattle.std.proofs.lemmas.Simd.{bitmask_splat}
use Rattle.line_loop.proofs.Newlines.{first_among, none_among}
use Rattle.line_loop.proofs.newline.newline_of.Goals as goal

pub returns-then-found-eq0 : goal.returns-then-found-eq0
returns-then-found-eq0 c =
    let v = c.args.block in
    none_among v _ (bitmask_splat w8 eqb v 16 10 c.fits-block.0 (omega arith)) c.if-found-eq0.true

pub returns-else-found-eq0 : goal.returns-else-found-eq0
returns-else-found-eq0 c =
    let v = c.args.block in
    first_among v _ (bitmask_splat w8 eqb v 16 10 c.fits-block.0 (omega arith)) (omega arith) (omega (arith, c.if-found-eq0.false))
