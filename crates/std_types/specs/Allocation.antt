-- The values of the standard types by which nodes get node-IDs, and what the structs hold of
-- values.
use Rattle.std.specs.Prelude.{List, length, ◌≤◌, ◌^◌, ◌<◌, [], ◌∷◌}
use Rattle.std.specs.List.{All}
use Rattle.dsdl_types.specs.Values.{Items, Parts, Val, items_of}
use Rattle.dsdl_types.specs.Views.{in_row}
use Rattle.std_types.specs.Held.{list_of, row_of, natural, natural_value, part}
use Rattle.std_types.specs.declared.allocation.NodeId.{NodeId}
use Rattle.std_types.specs.declared.allocation.NodeIdAllocation.{NodeIdAllocation}

-- node.ID.1.0
abbrev pub node_id_value : NodeId → Val
node_id_value x = Parts (in_row (natural_value x.value ∷ []))

abbrev pub node_id_of : Val → NodeId
node_id_of v = record { value = natural 16 (part 0 v) }

abbrev pub FitsNodeId : NodeId → Type 0
FitsNodeId x = x.value < 2 ^ 16

-- node-IDs in an array: at most 1
abbrev pub node_ids_value : List NodeId → Val
node_ids_value xs = Items (row_of node_id_value xs)

abbrev pub node_ids_of : Val → List NodeId
node_ids_of v = list_of node_id_of (items_of v)

abbrev pub FitsNodeIds : List NodeId → Type 0
FitsNodeIds xs = (length xs ≤ 1) × All FitsNodeId xs

-- pnp.NodeIDAllocationData.1.0
abbrev pub node_id_allocation_value : NodeIdAllocation → Val
node_id_allocation_value x = Parts (in_row (natural_value x.unique_id_hash ∷ node_ids_value x.allocated_node_id ∷ []))

abbrev pub node_id_allocation_of : Val → NodeIdAllocation
node_id_allocation_of v = record {
  unique_id_hash = natural 64 (part 0 v);
  allocated_node_id = node_ids_of (part 1 v);
}

abbrev pub FitsNodeIdAllocation : NodeIdAllocation → Type 0
FitsNodeIdAllocation x = (x.unique_id_hash < 2 ^ 64) × FitsNodeIds x.allocated_node_id
