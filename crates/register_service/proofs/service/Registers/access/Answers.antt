use Rattle.std.proofs.Common.{refl}
use Rattle.std.proofs.lemmas.Result.{IfOk-weaker}
use Rattle.register_service.proofs.Map.{stand_next}
use Rattle.register_service.proofs.service.Registers.access.Goals as goal

pub returns-clause-stands : goal.returns-clause-stands
returns-clause-stands g c = λ allowed opened past s.
    IfOk-weaker c.access.result _ _
    (λ x e. stand_next g.G.Fn allowed opened past c.args.self.now (record { list = c.access.new.list; guard = c.args.self.now.guard; alloc = c.args.self.now.alloc }) c.args.name.now c.args.value s refl e)
    (c.access.ensures.left allowed s.allows)
