use Rattle.std.proofs.Common.{◌≡◌, ◌^◌, ◌-◌, false, drop}
use Rattle.node_plan.specs.Limit.{begins_two}
use Rattle.node_plan.proofs.limit.is_version_two.Given as goal

-- what is left tells what the text does
abbrev pub invariant-loop-i : goal.invariant-loop-i
invariant-loop-i l = begins_two false (2 ^ 20) l.text ≡ begins_two l.comment (2 ^ 20 - l.i) (drop l.i l.text)
