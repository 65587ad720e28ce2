-- In which requests of files the tree failed, by the command.
use Rattle.std.proofs.Common.{◌≡◌, ◌∙◌, ◌⊎◌, inl, inr, ℕ, false, List, [], ◌∷◌, Option, Some, None, refl, sym, ap, subst}
use Rattle.frame_log.specs.Log.{log_of}
use Rattle.report_lines.specs.LineSinks.{put_behind}
use Rattle.node_core.specs.Steps.{Step, failed_lines, steps}
use Rattle.node_run.specs.Failures.{AreFailures, Failures}
use Rattle.node_run.specs.declared.form.Form.{Form}
use Rattle.node_run.specs.Ran.{Ran, names_of}
use Rattle.node_run.specs.declared.status.Status.{Status}
use Rattle.node_run.specs.declared.status.Status.TheVariants as status
use Rattle.cyphal.specs.Words.{Command, Run, command_of}
use Rattle.cyphal.specs.Cause.{Outside}
use Rattle.cyphal.specs.Job.{Told, Outcome, is_settled, ReportsNothing}
use Rattle.cyphal.specs.Plans.{counted_from}
use Rattle.cyphal.specs.jobs.Run.{HasRunAt}
use Rattle.cyphal.specs.Expected.{job_asked, job_for, WasDone}

-- from nothing on, some requests are told in which the tree failed, or its count stays
abbrev pub StaysOrFails : Failures → Type 0
StaysOrFails f = (f.now.faults ≡ f.before.faults) ⊎ (f.new ≡ Some [] → ⊥)

none_told : (line : ℕ) (lines : List ℕ) (new : Option (List ℕ)) → new ≡ Some (line ∷ lines) → new ≡ Some [] → ⊥
none_told line lines new a b = let bad : Some (line ∷ lines) ≡ Some [] = sym a ∙ b in cc

stays_or_fails : (all : List Step) (f : Failures) → f.old ≡ Some [] → AreFailures all f → StaysOrFails f
stays_or_fails all f old a = by_lines (failed_lines all) a.tells.told a.kept
  where
    by_lines : (lines : List ℕ) → f.new ≡ put_behind f.old lines → (lines ≡ [] → f.now.faults ≡ f.before.faults) → StaysOrFails f
    by_lines [] told kept = inl (kept refl)
    by_lines (line ∷ lines) told kept = inr (none_told line lines f.new (told ∙ ap (λ o. put_behind o (line ∷ lines)) old))

module _ (told : Told) (came : Outcome) where
  run_done : (form : Form) (root path : List ℕ) → came.failures.old ≡ Some [] → came.status ≡ status.Ok → HasRunAt form root path told came → StaysOrFails came.failures
  run_done form root path old ok r =
      let run = r.run.is in
      let f = counted_from r.run.calls came.failures in
      let refusal = (log_of (names_of r.plan) run.bytes).refusal in
      let ran : Ran form r.plan run.mets refusal status.Ok came.reported f told.written came.written =
      subst (λ (s : Status). Ran form r.plan run.mets refusal s came.reported f told.written came.written) ok run.ran in
      stays_or_fails (steps r.plan run.mets) f old ran.1.failed

  did_asked : (command : Option Command) → ((job_asked command).serves ≡ false → came.failures.now.faults ≡ came.failures.before.faults) → came.failures.old ≡ Some [] → came.status ≡ status.Ok
      → (job_asked command).did told came → StaysOrFails came.failures
  did_asked None kept old ok d = absurd d
  did_asked (Some (Run form root path)) kept old ok d = run_done form root path old ok d
  did_asked (Some other) kept old ok d = inl (kept refl)

  -- a command that serves no files reports none
  nothing_by : (command : Option Command) → (job_asked command).serves ≡ false → (job_asked command).did told came → ReportsNothing came
  nothing_by None h d = absurd d
  nothing_by (Some (Run form root path)) h d = absurd cc
  nothing_by (Some other) h d = d.1

module _ {L : Type 0} (words : List (List ℕ)) (told : Told) (came : Outcome) (old new : Outside L) (done : WasDone words told came old new) where
  -- where all was done, the tree's count stays, or requests are told in which it failed
  pub stays_or_told : ((job_for words).serves ≡ false → came.failures.now.faults ≡ came.failures.before.faults) → came.failures.old ≡ Some [] → came.status ≡ status.Ok → StaysOrFails came.failures
  stays_or_told kept none ok = by_work done
    where
      by_work : WasDone words told came old new → StaysOrFails came.failures
      by_work (inl n) = let bad : is_settled came.status ≡ false = n.not_settled in absurd (let ends = ap is_settled ok in cc)
      by_work (inr d) = did_asked told came (command_of words) kept none ok d

  -- a command that serves no files tells none
  pub none_failed : (job_for words).serves ≡ false → came.failures.new ≡ came.failures.old
  none_failed h = by_work done
    where
      by_work : WasDone words told came old new → came.failures.new ≡ came.failures.old
      by_work (inl n) = n.empty.failed
      by_work (inr d) = (nothing_by told came (command_of words) h d).failed
