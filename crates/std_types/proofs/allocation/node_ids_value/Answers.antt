use Rattle.std.proofs.Common.{◌+◌, sym, subst}
use Rattle.std_types.specs.Allocation.{node_id_value}
use Rattle.std_types.proofs.Rows.{Written, written_at}
use Rattle.std_types.proofs.allocation.node_ids_value.Goals as goal

pub loop-id-preserved : goal.loop-id-preserved
loop-id-preserved c =
    subst (Written node_id_value c.args.ids.now (c.loop-id.id-index + 1)) (sym c.in_ok-push.ensures.items)
    (written_at node_id_value c.args.ids.now c.loop-id.id-index _ c.loop-id.items.items c.in_ok-to_value.field-0 c.loop-id-test.true c.in_ok-to_value.ensures c.loop-id.invariant)
