use Rattle.std.proofs.Common.{arith}
use Rattle.frame_log.proofs.LaneLemmas.{mask_of_two, equal_all, equal_some}
use Rattle.line_order.proofs.front.equal_before.Goals as goal

pub returns-then-other-eq0-clause-same : goal.returns-then-other-eq0-clause-same
returns-then-other-eq0-clause-same c = equal_all c.args.a c.args.b _ c.fits-a.0 c.fits-b.0 (mask_of_two c.args.a c.args.b c.fits-a.0 c.fits-b.0) c.if-other-eq0.true

pub returns-else-other-eq0-clause-same : goal.returns-else-other-eq0-clause-same
returns-else-other-eq0-clause-same c = (equal_some c.args.a c.args.b _ c.fits-a.0 c.fits-b.0 (mask_of_two c.args.a c.args.b c.fits-a.0 c.fits-b.0) (omega (arith, c.if-other-eq0.false))).same

pub returns-else-other-eq0-clause-within : goal.returns-else-other-eq0-clause-within
returns-else-other-eq0-clause-within c = (equal_some c.args.a c.args.b _ c.fits-a.0 c.fits-b.0 (mask_of_two c.args.a c.args.b c.fits-a.0 c.fits-b.0) (omega (arith, c.if-other-eq0.false))).within
