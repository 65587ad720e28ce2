use Rattle.std.proofs.Common.{◌≡◌, drop}
use Rattle.register_service.specs.RegisterMap.{entry, entry_from}
use Rattle.register_service.proofs.register_list.entry.Given as goal

abbrev pub invariant-loop-number : goal.invariant-loop-number
invariant-loop-number l = entry l.name l.list ≡ entry_from l.number l.name (drop l.number l.list)
