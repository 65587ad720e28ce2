use Rattle.std.proofs.Common.{◌+◌, ◌≤◌, ◌^◌, length}
use Rattle.node_plan.specs.Draft.{start}
use Rattle.node_plan.specs.IsPlan.{IsDraft}
use Rattle.node_plan.specs.Plan.{PlanIs, Goes}
use Rattle.node_plan.specs.Words.{parts_of}
use Rattle.node_plan.proofs.read.read_lines.Given as goal

-- what the lines that are left make of the draft is what all lines make of none
abbrev pub invariant-loop-line : goal.invariant-loop-line
invariant-loop-line l = record {
  plan : (is : PlanIs) → Goes l.names l.is_long l.draft l.n (parts_of 10 l.behind) is → Goes l.names l.is_long start 1 (parts_of 10 l.text) is;
  sound : IsDraft l.draft;
  few : l.n + length l.behind ≤ 2 ^ 20 + 33;
}

abbrev pub decreases-loop-line : goal.decreases-loop-line
decreases-loop-line l = length l.behind
