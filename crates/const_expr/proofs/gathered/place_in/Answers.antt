use Rattle.std.proofs.Common.{◌+◌, ◌-◌, ◌/◌, sym, arith}
use Rattle.const_expr.proofs.SetLemmas.{at_member, goes_in}
use Rattle.const_expr.proofs.gathered.place_in.Goals as goal

pub returns-in-Equal : goal.returns-in-Equal
returns-in-Equal c =
    at_member c.args.set.now c.args.constant.now c.index-set-middle.result (c.loop-low.low + (c.loop-low.high - c.loop-low.low) / 2)
    c.requires (omega arith) c.index-set-middle.is (sym c.in-Equal.ensures)

pub returns : goal.returns
returns c =
    goes_in c.args.set.now c.args.constant.now c.loop-low.low (omega arith) c.loop-low.invariant.behind
    (λ k d le lt. c.loop-low.invariant.before k d (omega arith) lt)
