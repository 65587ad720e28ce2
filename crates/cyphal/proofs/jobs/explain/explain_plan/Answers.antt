use Rattle.std.proofs.Common.{inl, inr, true, false}
use Rattle.node_plan.specs.declared.plan.Plan.{Plan}
use Rattle.log_explain.specs.Explained.{explain_voice}
use Rattle.node_run.specs.Ran.{names_of}
use Rattle.cyphal.specs.Delivered.{DeliveredOnce, DueDelivered, SessionsAreTold}
use Rattle.cyphal.specs.MayEnd.{of_log, of_plan}
use Rattle.cyphal.specs.jobs.Run.{over}
use Rattle.cyphal.proofs.Causes.{ends_so_over, took_nothing}
use Rattle.cyphal.proofs.Delivered.{delivered_once, due_delivered, where_told}
use Rattle.cyphal.proofs.Plans.{refused_at, good_at}
use Rattle.cyphal.proofs.ToldSessions.{sessions_are_told}
use Rattle.cyphal.proofs.statuses.Among.{log_among, of_first, of_second}
use Rattle.cyphal.proofs.statuses.Reach.{ends_as_log, no_usage, cause_of}
use Rattle.cyphal.proofs.jobs.explain.explain_plan.Goals as goal

pub returns-in-Err-clause-cause : goal.returns-in-Err-clause-cause
returns-in-Err-clause-cause g c =
    let err = c.in-Err.ensures in
    ends_so_over Plan _ _ _ err.cause _ _ _ err.write true false

pub returns-in-Err-clause-ran : goal.returns-in-Err-clause-ran
returns-in-Err-clause-ran g c =
    let err = c.in-Err.ensures in
    inl (took_nothing Plan _ _ _ err.cause _ _ _ err.write _ err.early)

pub returns-in-Err-clause-answer : goal.returns-in-Err-clause-answer
returns-in-Err-clause-answer g c h =
    refused_at (over (g.L.Source.left c.args.input.now)) c.args.root.now c.args.path.now (g.T.Tree.files c.args.tree.now) c.in-Err.status (c.in-Err.ensures.answer h)

pub returns-clause-answer : goal.returns-clause-answer
returns-clause-answer g c h =
    let plan = c.in-Ok.plan in
    good_at (over (g.L.Source.left c.args.input.now)) c.args.root.now c.args.path.now (g.T.Tree.files c.args.tree.now) c.status_of.result plan c.in-Ok.ensures.plan
    (ends_as_log (names_of plan) (explain_voice plan) _ _ c.explain_log.result _ _ c.status_of.result c.status_of.ensures h c.explain_log.ensures.listened) h

pub returns-in-Err-clause-among : goal.returns-in-Err-clause-among
returns-in-Err-clause-among g c = of_first (of_plan c.in-Err.status) (of_log c.in-Err.status) c.in-Err.ensures.among

pub returns-clause-among : goal.returns-clause-among
returns-clause-among g c =
    let stat = c.status_of.result in
    of_second (of_plan stat) (of_log stat) (log_among c.explain_log.result stat c.status_of.ensures)

pub returns-clause-usage : goal.returns-clause-usage
returns-clause-usage g c = no_usage c.explain_log.result c.status_of.result c.status_of.ensures

pub returns-clause-cause : goal.returns-clause-cause
returns-clause-cause g c =
    cause_of c.explain_log.result c.status_of.result c.status_of.ensures _ _ c.in-Ok.ensures.cause c.explain_log.ensures.read c.explain_log.ensures.write c.explain_log.ensures.unread c.explain_log.ensures.unwritten

pub returns-clause-ran : goal.returns-clause-ran
returns-clause-ran g c =
    let plan = c.in-Ok.plan in
    let input = g.L.Source.left c.args.input.now in
    let law = c.headline_laws.ensures in
    inr (record {
      plan = plan;
      is = c.in-Ok.ensures.plan;
      listened = record {
        ended = c.explain_log.result;
        is = c.status_of.ensures;
        listened = c.explain_log.ensures.listened;
      };
      sessions = where_told (SessionsAreTold plan) (sessions_are_told plan c.in-Ok.ensures.sound) input;
      explained_once = where_told (DeliveredOnce plan) (delivered_once law c.as_run.ensures plan) input;
      explained_due = where_told (DueDelivered plan) (due_delivered law c.as_run.ensures plan) input;
    })
