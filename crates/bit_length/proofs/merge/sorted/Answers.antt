use Rattle.std.proofs.Common.{arith}
use Rattle.bit_length.proofs.MergeLemmas.{in_order}
use Rattle.bit_length.proofs.merge.sorted.Goals as goal

pub returns-clause-order : goal.returns-clause-order
returns-clause-order c =
    in_order c.sort_unstable.new.self.items (λ k d lt. c.sort_unstable.ensures.sorted k d (omega arith) lt)
