use Rattle.node_plan.specs.declared.plan.Plan.{Plan}
use Rattle.cyphal.specs.MayEnd.{of_plan, of_text}
use Rattle.cyphal.specs.jobs.Bound.{bounded}
use Rattle.cyphal.proofs.Causes.{ends_so}
use Rattle.cyphal.proofs.Plans.{refused_at}
use Rattle.cyphal.proofs.statuses.Among.{bound_among, of_first, of_second}
use Rattle.cyphal.proofs.jobs.bound.bound_plan.Goals as goal

pub returns-in-Err-clause-cause : goal.returns-in-Err-clause-cause
returns-in-Err-clause-cause g c =
    let err = c.in-Err.ensures in
    ends_so Plan _ _ _ err.cause _ err.usage err.write

pub returns-in-Err-clause-answer : goal.returns-in-Err-clause-answer
returns-in-Err-clause-answer g c h = refused_at bounded c.args.root.now c.args.path.now (g.T.Tree.files c.args.tree.now) c.in-Err.status (c.in-Err.ensures.answer h)

pub returns-in-Err-clause-among : goal.returns-in-Err-clause-among
returns-in-Err-clause-among g c = of_first (of_plan c.in-Err.status) (of_text c.in-Err.status) c.in-Err.ensures.among

pub returns-clause-among : goal.returns-clause-among
returns-clause-among g c =
    of_second (of_plan c.bound.result) (of_text c.bound.result) (bound_among c.in-Ok.plan c.bound.result _ _ c.bound.ensures.written)
