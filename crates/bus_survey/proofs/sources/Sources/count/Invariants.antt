use Rattle.std.proofs.Common.{◌≡◌, false, slice_index_or}
use Rattle.bus_survey.specs.Sources.{count_below}
use Rattle.bus_survey.proofs.sources.Sources.count.Given as goal

-- those below this number
abbrev pub invariant-loop-node : goal.invariant-loop-node
invariant-loop-node l = l.count ≡ count_below (λ k. slice_index_or l.self.heard k false) l.node
