use Rattle.register_service.specs.Kept.{AreGuarded}
use Rattle.outside_tests.proofs.register_service_tests.asks.Given as goal

abbrev pub invariant-loop-asked : goal.invariant-loop-asked
invariant-loop-asked g l = AreGuarded g.G.Fn l.registers
