use Rattle.std.proofs.Common.{◌≡◌, take}
use Rattle.register_service.proofs.values.copy_registers.Given as goal

abbrev pub invariant-loop-register : goal.invariant-loop-register
invariant-loop-register l = l.list.items ≡ take l.register-index l.registers
