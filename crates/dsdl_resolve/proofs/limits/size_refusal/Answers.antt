use Rattle.std.proofs.Common.{◌≤◌, ◌^◌, arith}
use Rattle.dsdl_resolve.specs.Totals.{AreWithin}
use Rattle.dsdl_resolve.proofs.WithinLimits.{if_none, within_totals}
use Rattle.dsdl_resolve.proofs.limits.size_refusal.Goals as goal

pub returns-clause-within : goal.returns-clause-within
returns-clause-within c = λ union fs h.
    if_none c.above_limit.result (c.greatest.result ≤ 2 ^ 32) (AreWithin c.args.totals)
    (λ short. within_totals c.args.totals union fs c.greatest.result h c.requires (c.greatest.ensures union fs h) short (omega arith) (omega arith)) c.above_limit.ensures.within
