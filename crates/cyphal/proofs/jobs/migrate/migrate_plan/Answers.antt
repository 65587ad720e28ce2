use Rattle.std.proofs.Common.{List, ℕ}
use Rattle.cyphal.specs.MayEnd.{of_plan, of_text}
use Rattle.cyphal.proofs.Causes.{ends_so}
use Rattle.cyphal.proofs.statuses.Among.{of_first}
use Rattle.cyphal.proofs.jobs.migrate.migrate_plan.Goals as goal

pub returns-in-Err-clause-cause : goal.returns-in-Err-clause-cause
returns-in-Err-clause-cause g c =
    let err = c.in-Err.ensures in
    ends_so (List ℕ) _ _ _ err.cause _ err.usage err.write

pub returns-in-Err-clause-among : goal.returns-in-Err-clause-among
returns-in-Err-clause-among g c = of_first (of_plan c.in-Err.status) (of_text c.in-Err.status) c.in-Err.ensures.among
