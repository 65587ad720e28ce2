use Rattle.std.proofs.Common.{◌+◌, ◌-◌, ◌≤◌}
use Rattle.layout_text.proofs.Ascending.{IsListed}
use Rattle.layout_text.proofs.set.push_members.Given as goal

abbrev pub invariant-loop-n : goal.invariant-loop-n
invariant-loop-n l = record {
  listed : IsListed l.set l.from l.initial.text.items l.text.items;
  short : l.from ≤ l.greatest + 1;
}

abbrev pub decreases-loop-n : goal.decreases-loop-n
decreases-loop-n l = l.greatest + 2 - l.from
