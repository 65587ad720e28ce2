use Rattle.std.proofs.Common.{rules}
use Rattle.type_changes.specs.Lines.{AreChanges}
use Rattle.cyphal.proofs.statuses.Verdicts.{told_lines, told_ends}
use Rattle.cyphal.proofs.statuses.Changes.{changes_end}
use Rattle.cyphal.proofs.jobs.changes.write_changes.Goals as goal

pub returns-clause-written : goal.returns-clause-written
returns-clause-written g c =
    told_lines (AreChanges c.args.olds.now c.args.news.now) _ _ _ c.write_verdicts.result _ _ c.in-Ok.ensures (search rules) c.write_verdicts.ensures.told

pub returns-clause-ends : goal.returns-clause-ends
returns-clause-ends g c h =
    changes_end c.args.olds.now c.args.news.now _ _ c.write_verdicts.result c.in-Ok.ensures (told_ends _ _ c.write_verdicts.result _ _ c.write_verdicts.ensures.told h)
