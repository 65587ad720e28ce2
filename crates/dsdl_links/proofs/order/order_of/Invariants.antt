use Rattle.std.proofs.Common.{◌≡◌, ◌-◌, length}
use Rattle.dsdl_links.specs.Ready.{AreOpen}
use Rattle.dsdl_links.proofs.Readiness.{Ordering}
use Rattle.dsdl_links.proofs.order.order_of.Given as goal

abbrev pub invariant-files : goal.invariant-files
invariant-files l = record {
  ordering : Ordering l.links l.valued.items l.known.items l.order;
  ready : AreOpen (length l.links) l.links l.valued.items l.ready;
  marks : length l.valued.items ≡ length l.links;
  counts : length l.known.items ≡ length l.links;
}

abbrev pub decreases-files : goal.decreases-files
decreases-files l = length l.links - length l.order
