use Rattle.std.proofs.Common.{List, ℕ}
use Rattle.cyphal.proofs.Causes.{kept_cause, no_file_apart}
use Rattle.cyphal.proofs.Plans.{missing_ends}
use Rattle.cyphal.proofs.statuses.Among.{no_file_among}
use Rattle.cyphal.proofs.plan_file.text_at.Goals as goal

pub returns-in-Ok-None-clause-cause : goal.returns-in-Ok-None-clause-cause
returns-in-Ok-None-clause-cause g c =
    kept_cause (List ℕ) _ _ c.no_file.result c.in-Ok-None.ensures.cause (no_file_apart c.args.path.now c.no_file.result c.no_file.ensures)

pub returns-in-Ok-None-clause-answer : goal.returns-in-Ok-None-clause-answer
returns-in-Ok-None-clause-answer g c names h =
    missing_ends names c.args.path.now _ (g.T.Tree.files c.args.tree.now) c.no_file.result (rw c.in-Ok-None.field-0-is at c.in-Ok-None.ensures.file) c.no_file.ensures h

pub returns-in-Ok-None-clause-among : goal.returns-in-Ok-None-clause-among
returns-in-Ok-None-clause-among g c = no_file_among c.args.path.now c.no_file.result c.no_file.ensures
