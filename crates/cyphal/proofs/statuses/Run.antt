-- A run has one status, that of its log's end.
use Rattle.std.proofs.Common.{◌≡◌, ◌∙◌, ℕ, true, false, List, Option, Some, None, IfSome, sym, ap}
use Rattle.node_plan.specs.declared.plan.Plan.{Plan}
use Rattle.cy_outside.specs.Files.{Files}
use Rattle.frame_log.specs.Log.{log_of}
use Rattle.frame_log.specs.declared.error.LogError.{LogError}
use Rattle.node_core.specs.Steps.{Met}
use Rattle.node_run.specs.Failures.{Failures}
use Rattle.node_run.specs.declared.form.Form.{Form}
use Rattle.node_run.specs.HasRun.{HasRun}
use Rattle.node_run.specs.Ran.{Reported, Ran, names_of}
use Rattle.node_run.specs.ValueLines.{Flow}
use Rattle.node_run.specs.declared.status.Status.{Status}
use Rattle.node_run.specs.declared.status.Status.TheVariants as status
use Rattle.cyphal.specs.Cause.{is_refused}
use Rattle.cyphal.specs.Job.{is_fault}
use Rattle.cyphal.specs.LogEnds.{ending}
use Rattle.cyphal.specs.jobs.Run.{over}
use Rattle.cyphal.proofs.LogEnds.{named}

module _ (form : Form) (plan : Plan) (mets : List Met) (refusal : Option LogError) (put : Reported) (failed : Failures) (before after : Option (List ℕ)) where
  -- a status that is no fault is that of the log's end
  ended_so : (stat : Status) → is_fault stat ≡ false → Ran form plan mets refusal stat put failed before after → stat ≡ ending refusal
  ended_so status.Ok h r = ap ending (sym r.0)
  ended_so status.Usage h r = absurd r
  ended_so (status.Dsdl file n w) h r = absurd r
  ended_so (status.Plan n w) h r = absurd r
  ended_so (status.Log n w) h r = sym (ap ending r.0 ∙ named n w)
  ended_so (status.Text line) h r = absurd r
  ended_so (status.Unreadable line path w) h r = absurd r
  ended_so (status.NotNewer path w) h r = absurd r
  ended_so status.LogLong h r = ap ending (sym r.0)
  ended_so (status.NoFile path) h r = absurd r
  ended_so status.ReadFault h r = absurd cc
  ended_so status.WriteFault h r = absurd cc
  ended_so status.NoMemory h r = absurd cc

  -- a run over a log is none of the refusals before it
  no_refusal : (stat : Status) → is_refused stat ≡ true → Ran form plan mets refusal stat put failed before after → ⊥
  no_refusal status.Ok h r = absurd cc
  no_refusal status.Usage h r = r
  no_refusal (status.Dsdl file n w) h r = r
  no_refusal (status.Plan n w) h r = r
  no_refusal (status.Log n w) h r = absurd cc
  no_refusal (status.Text line) h r = r
  no_refusal (status.Unreadable line path w) h r = r
  no_refusal (status.NotNewer path w) h r = r
  no_refusal status.LogLong h r = absurd cc
  no_refusal (status.NoFile path) h r = r
  no_refusal status.ReadFault h r = absurd cc
  no_refusal status.WriteFault h r = absurd cc
  no_refusal status.NoMemory h r = absurd cc

module _ (form : Form) (plan : Plan) (files : Option Files) (told : Flow) (stat : Status) (put : Reported) (failed : Failures) (r : HasRun form plan files told stat put failed) where
  -- a run's status is the one that is asked for
  pub plan_answer : is_fault stat ≡ false → over told.left plan stat
  plan_answer h = by_input told.left r.is
    where
      by_input : (input : Option (List ℕ)) → IfSome input (λ (left : List ℕ). r.bytes ≡ left) → over input plan stat
      by_input None is = tt
      by_input (Some bytes) is =
          ended_so form plan r.mets (log_of (names_of plan) r.bytes).refusal put failed told.before told.after stat h r.ran
          ∙ ap (λ b. ending (log_of (names_of plan) b).refusal) is

  pub run_not_refused : is_refused stat ≡ true → ⊥
  run_not_refused h = no_refusal form plan r.mets (log_of (names_of plan) r.bytes).refusal put failed told.before told.after stat h r.ran
