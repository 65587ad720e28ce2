use Rattle.std_types.specs.Allocation.{node_id_of}
use Rattle.std_types.proofs.Rows.{Taken}
use Rattle.std_types.proofs.allocation.node_ids.Given as goal

abbrev pub invariant-loop-item : goal.invariant-loop-item
invariant-loop-item l = Taken node_id_of l.item-items l.item-index l.ids.items
