use Rattle.std.proofs.Common.{◌≡◌, take}
use Rattle.register_service.specs.Within.{limits_of}
use Rattle.register_service.proofs.limits.limits_of.Given as goal

abbrev pub invariant-loop-register : goal.invariant-loop-register
invariant-loop-register l = l.limits.items ≡ limits_of (take l.register-index l.registers)
