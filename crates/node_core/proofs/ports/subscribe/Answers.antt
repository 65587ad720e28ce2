use Rattle.std.proofs.Common.{◌∙◌, refl}
use Rattle.node_core.specs.Tables.{port_with}
use Rattle.node_core.proofs.Steps.{stands_again}
use Rattle.node_core.proofs.Tables.{ports_more}
use Rattle.node_core.proofs.Types.{types_more}
use Rattle.node_core.proofs.ports.subscribe.Goals as goal

pub returns-in-Ok : goal.returns-in-Ok
returns-in-Ok c = λ timeout ps h.
    let p = port_with c.args.kind c.args.port c.args.sources c.args.shape in record {
      waits = c.in-Ok.ensures.timeout ∙ h.waits;
      ports_are = ports_more ps p _ _ h.ports_are c.in-Ok.ensures.ports;
      types = types_more ps p _ _ c.args.shape refl c.requires.schema h.types c.in-Ok.ensures.shapes;
      stands = stands_again _ _ _ _ _ _ h.waits c.in-Ok.ensures.stands h.stands;
    }
