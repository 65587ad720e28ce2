use Rattle.std.proofs.Common.{◌≡◌, ◌∙◌, ℕ, ◌-◌, ◌^◌, ◌<◌, ◌≤◌, List, [], ◌∷◌, ◌++◌, length, take, replicate, sym, ap, subst, refl, arith}
use Rattle.std.proofs.Math.Seq.{take-append_seam}
use Rattle.std.proofs.lemmas.List.Elements.{All-cons, All-nil}
use Rattle.dsdl_types.specs.Greatest.{longest}
use Rattle.dsdl_types.specs.Laws.{encoding}
use Rattle.dsdl_types.specs.Schemas.{Sch, extent_of}
use Rattle.dsdl_types.specs.Stored.{IsStored}
use Rattle.dsdl_types.specs.Values.{Val}
use Rattle.dsdl_types.specs.Views.{sch, val}
use Rattle.wire_values.specs.Results.{IsWritten}
use Rattle.std_types.specs.Allocation.{node_id_allocation_value, FitsNodeId}
use Rattle.std_types.specs.AllocationLaws.{node_id_allocation_back}
use Rattle.std_types.specs.Types.{schema_of}
use Rattle.std_types.specs.declared.allocation.NodeId.{NodeId}
use Rattle.std_types.specs.declared.allocation.NodeIdAllocation.{NodeIdAllocation}
use Rattle.std_types.specs.declared.std_name.StdName.TheVariants.{NodeIdAllocation as allocation}
use Rattle.node_reach.specs.Allocated.{answer_payload}
use Rattle.node_reach.proofs.answer.write_answer.Goals as goal

extent_is : extent_of (schema_of allocation) ≡ 384
unfolding schema_of
extent_is = refl

-- the message of an answer
abbrev message : ℕ → ℕ → NodeIdAllocation
message uid node = record { unique_id_hash = uid; allocated_node_id = record { value = node } ∷ [] }

stored : (uid node : ℕ) → uid < 2 ^ 64 → node < 2 ^ 8 → IsStored (schema_of allocation) (node_id_allocation_value (message uid node))
unfolding schema_of
stored uid node h k =
    let id : NodeId = record { value = node } in
    let low : FitsNodeId id = omega arith in
    (node_id_allocation_back (message uid node) (h, (omega arith, All-cons FitsNodeId id [] low (All-nil FitsNodeId)))).0

taken : (s : Sch) (v : Val) (uid node n : ℕ) (out : List ℕ) → s ≡ schema_of allocation → v ≡ node_id_allocation_value (message uid node) → IsWritten s v n out → take n out ≡ answer_payload uid node
unfolding answer_payload
taken s v uid node n out s_is v_is w =
    let zeros : List ℕ = replicate (length out - n) 0 in
    ap (take n) w.bytes
    ∙ (ap (λ k. take k (encoding s v ++ zeros)) w.size
    ∙ (take-append_seam (encoding s v) zeros ∙ (λ i. encoding (s_is i) (v_is i))))

pub write_fitting-requires-clause-room : goal.write_fitting-requires-clause-room
write_fitting-requires-clause-room c =
    let s = sch c.in_ok-standard.standard.schema in
    let most : longest s ≤ extent_of s = c.extent_has_room.ensures s c.in_ok-standard.standard.rules c.in_ok-standard.standard.composite in
    let extent : extent_of s ≡ 384 = ap extent_of (c.in_ok-standard.ensures {u = tt}).schema ∙ extent_is in
    omega arith

pub returns-clause-payload : goal.returns-clause-payload
returns-clause-payload c =
    let v_is : val c.in_ok-value.value ≡ node_id_allocation_value (message c.args.uid c.args.node) =
    (c.in_ok-value.ensures {u = tt})
    ∙ ap (λ (ids : List NodeId). node_id_allocation_value (record { unique_id_hash = c.args.uid; allocated_node_id = ids }))
    (c.new.ensures ∙ ((c.in_ok-vec.ensures {u = tt}).items ∙ ap (λ n. record { value = n } ∷ []) c.from.ensures)) in
    taken (sch c.in_ok-standard.standard.schema) (val c.in_ok-value.value) c.args.uid c.args.node c.write_fitting.result c.write_fitting.new.out (c.in_ok-standard.ensures {u = tt}).schema v_is c.write_fitting.ensures

pub write_fitting-requires-clause-fits : goal.write_fitting-requires-clause-fits
write_fitting-requires-clause-fits c =
    let s = sch c.in_ok-standard.standard.schema in
    let v = val c.in_ok-value.value in
    let v_is : v ≡ node_id_allocation_value (message c.args.uid c.args.node) =
    (c.in_ok-value.ensures {u = tt})
    ∙ ap (λ (ids : List NodeId). node_id_allocation_value (record { unique_id_hash = c.args.uid; allocated_node_id = ids }))
    (c.new.ensures ∙ ((c.in_ok-vec.ensures {u = tt}).items ∙ ap (λ n. record { value = n } ∷ []) c.from.ensures)) in
    let s_is : s ≡ schema_of allocation = (c.in_ok-standard.ensures {u = tt}).schema in
    let held : IsStored s v = subst (λ (t : Sch). IsStored t v) (sym s_is) (subst (λ (w : Val). IsStored (schema_of allocation) w) (sym v_is) (stored c.args.uid c.args.node (omega arith) (omega arith))) in
    c.readings_stored.ensures.fits s v held
