use Rattle.std.proofs.Common.{◌≡◌, ◌+◌, length}
use Rattle.dsdl_links.specs.Marks.{unmarked}
use Rattle.dsdl_links.proofs.Reaching.{Follows}
use Rattle.dsdl_links.proofs.cycle.reaches_itself.Given as goal

abbrev pub invariant-loop-next : goal.invariant-loop-next
invariant-loop-next l = record {
  follows : Follows l.links l.file l.reached.items l.waiting.items;
  count : length l.reached.items ≡ length l.links;
}

abbrev pub decreases-loop-next : goal.decreases-loop-next
decreases-loop-next l = unmarked l.reached.items + length l.waiting.items
