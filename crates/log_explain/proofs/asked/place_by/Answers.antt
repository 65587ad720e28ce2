use Rattle.std.proofs.Common.{sym, subst}
use Rattle.tail_frame.specs.Frames.{seen}
use Rattle.node_core.specs.Quick.{IsLead}
use Rattle.node_core.specs.declared.quick.Lead.{Lead}
use Rattle.log_explain.proofs.Frames.{for_some}
use Rattle.log_explain.proofs.asked.place_by.Goals as goal

pub returns-in-AtPort : goal.returns-in-AtPort
returns-in-AtPort c =
    let rec = c.args.rec.now in
    let f = seen c.args.frame.now in
    let leads = subst (λ (l : Lead). IsLead c.args.node.now rec l) c.in-AtPort.is c.requires.lead in
    let one = for_some rec f c.requires.frame c.requires.ident in
    sym (leads one.node f one.is).at
