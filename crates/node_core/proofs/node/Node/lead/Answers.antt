use Rattle.std.proofs.Common.{◌∙◌, sym}
use Rattle.node_core.proofs.Subjects.{leads_to, leads_nowhere}
use Rattle.node_core.proofs.node.Node.lead.Goals as goal

pub returns-in-None-place-clause-leads : goal.returns-in-None-place-clause-leads
returns-in-None-place-clause-leads c =
    leads_nowhere c.args.self.now c.args.rec.now c.in-Some.subject (sym c.in-Some.ensures) (sym c.place.ensures ∙ c.in-None-place.is)

pub returns-in-Some-place-clause-leads : goal.returns-in-Some-place-clause-leads
returns-in-Some-place-clause-leads c =
    leads_to c.args.self.now c.args.rec.now c.in-Some.subject c.in-Some-place.place (sym c.in-Some.ensures) (sym c.place.ensures ∙ c.in-Some-place.is)
