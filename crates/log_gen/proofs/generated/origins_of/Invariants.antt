use Rattle.std.proofs.Common.{◌≡◌, map}
use Rattle.std.specs.List.{range_with_len}
use Rattle.log_gen.specs.Rules.{origin_by}
use Rattle.log_gen.proofs.generated.origins_of.Given as goal

abbrev pub invariant-loop-source : goal.invariant-loop-source
invariant-loop-source l = l.origins ≡ map (origin_by l.number) (range_with_len 0 l.source)
