use Rattle.std.proofs.Common.{◌≡◌, ◌∙◌, ◌++◌, All, ap, sym, subst}
use Rattle.node_plan.specs.Ports.{IsService, file_services, register_services, services, status_services}
use Rattle.node_plan.proofs.PortLemmas.{services_fit}
use Rattle.node_plan.proofs.plan.Plan.services.Goals as goal

pub returns-clause-fit : goal.returns-clause-fit
returns-clause-fit c h =
    let plan = c.args.self.now in
    let with_status = c.push_status.ensures ∙ ap (λ ss. ss ++ status_services plan) c.new-services.ensures in
    let with_registers = c.push_registers.ensures ∙ ap (λ ss. ss ++ register_services plan) with_status in
    let is : c.push_files.new.services ≡ services plan = c.push_files.ensures ∙ ap (λ ss. ss ++ file_services plan) with_registers in
    subst (All IsService) (sym is) (services_fit plan h)
