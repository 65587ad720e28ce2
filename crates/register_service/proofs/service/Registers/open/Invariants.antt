use Rattle.std.proofs.Common.{IsTrue}
use Rattle.std.specs.List.{AllWithin}
use Rattle.register_service.specs.Within.{is_within}
use Rattle.register_service.proofs.service.Registers.open.Given as goal

abbrev pub invariant-loop-index : goal.invariant-loop-index
invariant-loop-index g l = AllWithin (λ r. IsTrue (is_within r.limits r.value)) l.register-items 0 l.index
