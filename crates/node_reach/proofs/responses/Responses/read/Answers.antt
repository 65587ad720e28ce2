use Rattle.std.proofs.Common.{◌≤◌, IfSome, length, Option, sym, subst}
use Rattle.dsdl_types.specs.Stored.{IsStored}
use Rattle.dsdl_types.specs.Views.{sch, val}
use Rattle.dsdl_types.specs.declared.value.Value.{Value}
use Rattle.std_types.specs.declared.file.ReadReply.{ReadReply}
use Rattle.node_reach.proofs.Replies.{short_reply}
use Rattle.node_reach.proofs.responses.Responses.read.Goals as goal

pub invariant_of-result : goal.invariant_of-result
invariant_of-result c =
    let s = sch c.in_ok-standard.standard.schema in
    let stored : IsStored s (val c.in-Some.value) =
    subst (λ (o : Option Value). IfSome o (λ w. IsStored s (val w))) c.in-Some.is (c.in_ok-value.ensures {u = tt}).stored in
    record {
      short = subst (λ (r : ReadReply). length r.data ≤ 256) (sym (c.in_ok-reply.ensures {u = tt}))
          (short_reply s (c.in_ok-standard.ensures {u = tt}).schema (val c.in-Some.value) stored);
    }
