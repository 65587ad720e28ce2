use Rattle.std.proofs.Common.{append_assoc}
use Rattle.log_explain.proofs.session_line.put_end.Goals as goal

pub returns : goal.returns
returns c = simp (c.in_ok-push.ensures.ok, c.in_ok-put_count-2.ensures {u = tt}, c.in_ok-put_count.ensures {u = tt}, append_assoc)
