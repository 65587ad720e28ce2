use Rattle.std.proofs.Common.{◌≤◌, ◌*◌, arith, subst, sym}
use Rattle.std.proofs.Math.Nat.{mul-le-mul}
use Rattle.node_plan.proofs.PortLemmas.{service_extent-low}
use Rattle.node_plan.proofs.memory.service_bound.Goals as goal

pub returns-clause-most : goal.returns-clause-most
returns-clause-most c =
    let low : c.extent.result ≤ 515 = subst (λ n. n ≤ 515) (sym c.extent.ensures) (service_extent-low c.args.service.now c.requires) in
    let most : c.args.service.now.sources * c.extent.result ≤ 128 * 515 = mul-le-mul c.requires.few_sources low in
    omega (arith, most)
