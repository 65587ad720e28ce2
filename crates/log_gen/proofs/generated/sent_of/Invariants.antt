use Rattle.std.proofs.Common.{◌≡◌, map}
use Rattle.std.specs.List.{range_with_len}
use Rattle.log_gen.specs.Rules.{sent_by}
use Rattle.log_gen.proofs.generated.sent_of.Given as goal

abbrev pub invariant-loop-source : goal.invariant-loop-source
invariant-loop-source l = l.sent ≡ map (sent_by l.number) (range_with_len 0 l.source)
