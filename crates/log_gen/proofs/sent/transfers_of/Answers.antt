use Rattle.std.proofs.Common.{◌+◌, ◌*◌}
use Rattle.log_gen.specs.Rows.{transfer}
use Rattle.log_gen.specs.Rules.{payload_of}
use Rattle.log_gen.proofs.Pushed.{pushed}
use Rattle.log_gen.proofs.sent.transfers_of.Goals as goal

pub loop-place-preserved : goal.loop-place-preserved
loop-place-preserved c =
    pushed (λ k. transfer (payload_of c.args.number) (4 * k + c.args.source)) c.loop-place.place c.loop-place.list c.push.new.self c.in_ok-transfer_at.field-0 c.in_ok-push.ensures.ok c.loop-place.invariant c.in_ok-transfer_at.ensures
