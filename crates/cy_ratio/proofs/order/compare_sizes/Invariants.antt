use Rattle.std.proofs.Common.{◌≡◌, ◌+◌, ◌*◌, ◌<◌}
use Rattle.std.specs.Ordering.{nat_cmp}
use Rattle.cy_ratio.proofs.order.compare_sizes.Given as goal

abbrev pub invariant-loop-x : goal.invariant-loop-x
invariant-loop-x l = record {
  left : 0 < l.x.1;
  right : 0 < l.y.1;
  same : nat_cmp (l.x.0 * l.y.1) (l.y.0 * l.x.1) ≡ nat_cmp (l.fn.a * l.fn.d) (l.fn.c * l.fn.b);
}

abbrev pub decreases-loop-x : goal.decreases-loop-x
decreases-loop-x l = l.x.1 + l.y.1
