-- The structs and the values of the standard types by which nodes get node-IDs determine each
-- other.
use Rattle.std.specs.Prelude.{List, ◌≤◌, ◌≡◌, [], ◌∷◌, refl, true, false}
use Rattle.std.proofs.Common.{sym, ◌∙◌}
use Rattle.dsdl_types.specs.Schemas.{Var}
use Rattle.dsdl_types.specs.Stored.{IsStored}
use Rattle.dsdl_types.specs.Values.{Val, Parts}
use Rattle.dsdl_types.specs.Views.{in_row}
use Rattle.std_types.specs.Fields.{items_back, items_forth, natural_back, natural_forth, parts_are}
use Rattle.std_types.specs.Held.{part}
use Rattle.std_types.specs.Allocation.{node_ids_value, node_ids_of, FitsNodeIds, node_id_value}
use Rattle.std_types.specs.Allocation.{node_id_of, FitsNodeId, node_id_allocation_value}
use Rattle.std_types.specs.Allocation.{node_id_allocation_of, FitsNodeIdAllocation}
use Rattle.std_types.specs.Schemas.{node_id, node_id_allocation}
use Rattle.std_types.specs.declared.allocation.NodeId.{NodeId}
use Rattle.std_types.specs.declared.allocation.NodeIdAllocation.{NodeIdAllocation}

pub node_id_back : (x : NodeId) → FitsNodeId x
    → IsStored node_id (node_id_value x) × (node_id_of (node_id_value x) ≡ x)
node_id_back x f = ((f, tt), λ i. record { value = natural_back 16 x.value f i })

pub node_id_forth : (v : Val) → IsStored node_id v
    → FitsNodeId (node_id_of v) × (node_id_value (node_id_of v) ≡ v)
node_id_forth v h =
    let fields = parts_are node_id refl v h in
    let value_held = natural_forth 16 true (part 0 v) fields.1.0 in
    (value_held.0, (λ i. Parts (in_row (value_held.1 i ∷ []))) ∙ sym fields.0)

pub node_ids_back : (xs : List NodeId) → FitsNodeIds xs
    → IsStored (Var node_id 1) (node_ids_value xs) × (node_ids_of (node_ids_value xs) ≡ xs)
node_ids_back = items_back (λ n. n ≤ 1) FitsNodeId (IsStored node_id) node_id_value node_id_of node_id_back

pub node_ids_forth : (v : Val) → IsStored (Var node_id 1) v
    → FitsNodeIds (node_ids_of v) × (node_ids_value (node_ids_of v) ≡ v)
node_ids_forth = items_forth (λ n. n ≤ 1) FitsNodeId (IsStored node_id) node_id_value node_id_of node_id_forth

pub node_id_allocation_back : (x : NodeIdAllocation) → FitsNodeIdAllocation x
    → IsStored node_id_allocation (node_id_allocation_value x) × (node_id_allocation_of (node_id_allocation_value x) ≡ x)
node_id_allocation_back x f =
    let allocated_node_id_kept = node_ids_back x.allocated_node_id f.1 in (
      (f.0, (allocated_node_id_kept.0, tt)),
      λ i. record {
        unique_id_hash = natural_back 64 x.unique_id_hash f.0 i;
        allocated_node_id = allocated_node_id_kept.1 i;
      },
    )

pub node_id_allocation_forth : (v : Val) → IsStored node_id_allocation v
    → FitsNodeIdAllocation (node_id_allocation_of v) × (node_id_allocation_value (node_id_allocation_of v) ≡ v)
node_id_allocation_forth v h =
    let fields = parts_are node_id_allocation refl v h in
    let unique_id_hash_held = natural_forth 48 false (part 0 v) fields.1.0 in
    let allocated_node_id_held = node_ids_forth (part 1 v) fields.1.1.0 in
    ((unique_id_hash_held.0, allocated_node_id_held.0), (λ i. Parts (in_row (unique_id_hash_held.1 i ∷ allocated_node_id_held.1 i ∷ []))) ∙ sym fields.0)
