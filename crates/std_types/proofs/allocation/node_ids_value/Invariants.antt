use Rattle.std_types.specs.Allocation.{node_id_value}
use Rattle.std_types.proofs.Rows.{Written}
use Rattle.std_types.proofs.allocation.node_ids_value.Given as goal

abbrev pub invariant-loop-id : goal.invariant-loop-id
invariant-loop-id l = Written node_id_value l.ids l.id-index l.items.items
