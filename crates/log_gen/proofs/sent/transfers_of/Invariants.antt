use Rattle.std.proofs.Common.{◌≡◌, ◌+◌, ◌*◌, map}
use Rattle.std.specs.List.{range_with_len}
use Rattle.log_gen.specs.Rows.{transfer}
use Rattle.log_gen.specs.Rules.{payload_of}
use Rattle.log_gen.proofs.sent.transfers_of.Given as goal

abbrev pub invariant-loop-place : goal.invariant-loop-place
invariant-loop-place l = l.list ≡ map (λ k. transfer (payload_of l.number) (4 * k + l.source)) (range_with_len 0 l.place)
