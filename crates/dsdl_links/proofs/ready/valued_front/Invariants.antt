use Rattle.std.proofs.Common.{◌≡◌, ◌≤◌, ◌-◌, true, length, take}
use Rattle.dsdl_links.specs.Marks.{are_marked}
use Rattle.dsdl_links.proofs.ready.valued_front.Given as goal

abbrev pub invariant-loop-front : goal.invariant-loop-front
invariant-loop-front l = record {
  few : l.front ≤ length l.links;
  valued : are_marked l.valued (take l.front l.links) ≡ true;
}

abbrev pub decreases-loop-front : goal.decreases-loop-front
decreases-loop-front l = length l.links - l.front
