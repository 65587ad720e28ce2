-- A command ends with one of its statuses.
use Rattle.std.proofs.Common.{◌≡◌, ◌∙◌, ◌⊎◌, inl, inr, ℕ, Bool, true, false, ◌||◌, List, Option, Some, None, refl, ap}
use Rattle.std.proofs.lemmas.Bool.{cases_Bool, false≢true}
use Rattle.cy_outside.specs.Files.{Files}
use Rattle.compat_check.specs.Services.{parts_verdict}
use Rattle.compat_check.specs.declared.verdict.Verdict.{Verdict}
use Rattle.compat_check.specs.declared.verdict.Verdict.TheVariants as verdict
use Rattle.dsdl_types.specs.Schemas.{Sch}
use Rattle.dsdl_types.specs.declared.definition.Parts.{Parts}
use Rattle.frame_log.specs.Log.{log_of}
use Rattle.frame_log.specs.declared.error.LogError.{LogError}
use Rattle.log_loop.specs.declared.ended.Ended.{Ended}
use Rattle.log_loop.specs.declared.ended.Ended.TheVariants as end
use Rattle.node_core.specs.Steps.{Met}
use Rattle.node_plan.specs.declared.plan.Plan.{Plan}
use Rattle.node_run.specs.BoundText.{HasBound}
use Rattle.node_run.specs.Compared.{ended, compared_found}
use Rattle.node_run.specs.Failures.{Failures}
use Rattle.node_run.specs.declared.form.Form.{Form}
use Rattle.node_run.specs.Generated.{HasGenerated}
use Rattle.node_run.specs.Loaded.{IsNotLoaded}
use Rattle.node_run.specs.NamedTypes.{named as named_in}
use Rattle.node_run.specs.HasRun.{HasRun}
use Rattle.node_run.specs.Ran.{Ran, Reported, names_of, status_of}
use Rattle.node_run.specs.ValueLines.{Answering, Flow, HasAnsweredLines}
use Rattle.node_run.specs.declared.status.Status.{Status}
use Rattle.node_run.specs.declared.status.Status.TheVariants as status
use Rattle.cyphal.specs.Expected.{job_asked}
use Rattle.cyphal.specs.Job.{is_fault}
use Rattle.cyphal.specs.MayEnd.{of_root, of_plan, of_text, of_types, of_verdicts, of_log, of_values}
use Rattle.cyphal.specs.Words as command
use Rattle.cyphal.specs.Words.{Command}
use Rattle.cyphal.specs.jobs.Changes.{TellsChanges, NewIsNotLoaded, ChangesIn}
use Rattle.cyphal.specs.jobs.Compat.{Compares, CompareIn}
use Rattle.cyphal.specs.jobs.Compile.{Compiles}
use Rattle.cyphal.specs.jobs.Versions.{ComparesVersions, VersionsIn}

pub of_first : (a b : Bool) → a ≡ true → (a || b) ≡ true
of_first a b e = ap (λ x. x || b) e

pub of_second : (a b : Bool) → b ≡ true → (a || b) ≡ true
of_second true b e = refl
of_second false b e = e

pub root_among : (root : List ℕ) (files : Option Files) (stat : Status) → IsNotLoaded root files stat → of_root stat ≡ true
root_among root files (status.NoFile path) h = refl
root_among root files (status.Dsdl file line why) h = refl
root_among root files status.ReadFault h = refl
root_among root files status.NoMemory h = refl
root_among root files other h = absurd h

pub of_its_root : (stat : Status) → of_root stat ≡ true → of_plan stat ≡ true
of_its_root (status.Plan line why) h = refl
of_its_root other h = h

pub no_file_among : (path : List ℕ) (stat : Status) → (stat ≡ status.NoFile path) ⊎ (stat ≡ status.NoMemory) → of_plan stat ≡ true
no_file_among path stat (inl e) = ap of_plan e
no_file_among path stat (inr e) = ap of_plan e

pub compile_among : (root : List ℕ) (files : Option Files) (stat : Status) → (is_fault stat ≡ false → Compiles root files stat) → (of_root stat || of_text stat) ≡ true
compile_among root files status.Ok h = refl
compile_among root files (status.NoFile path) h = refl
compile_among root files (status.Dsdl file line why) h = refl
compile_among root files status.ReadFault h = refl
compile_among root files status.WriteFault h = refl
compile_among root files status.NoMemory h = refl
compile_among root files other h = absurd (h refl)

verdict_among : (v : Verdict) → of_types (ended v) ≡ true
verdict_among verdict.Yes = refl
verdict_among (verdict.No path why) = refl

found_among : (new old : List ℕ) (parts older : Option Parts) → of_types (compared_found new old parts older) ≡ true
found_among new old None older = refl
found_among new old (Some parts) None = refl
found_among new old (Some parts) (Some older) = verdict_among (parts_verdict parts older)

fault_among : (stat : Status) → is_fault stat ≡ true → (of_root stat || of_types stat) ≡ true
fault_among status.ReadFault e = refl
fault_among status.WriteFault e = refl
fault_among status.NoMemory e = refl
fault_among other e = absurd (false≢true e)

compared_among : (root new old : List ℕ) (files : Option Files) (stat : Status) → IsNotLoaded root files stat ⊎ CompareIn root new old files stat → (of_root stat || of_types stat) ≡ true
compared_among root new old files stat (inl h) = of_first (of_root stat) (of_types stat) (root_among root files stat h)
compared_among root new old files stat (inr c) =
    of_second (of_root stat) (of_types stat) (ap of_types c.ends ∙ found_among new old (named_in c.names new) (named_in c.names old))

pub compat_among : (root new old : List ℕ) (files : Option Files) (stat : Status) → (is_fault stat ≡ false → Compares root new old files stat) → (of_root stat || of_types stat) ≡ true
compat_among root new old files stat h = elim (cases_Bool (is_fault stat)) [
  | inl e ↦ fault_among stat e
  | inr e ↦ compared_among root new old files stat (h e).1
]

verdicts_end : (v : Verdict) → of_verdicts (ended v) ≡ true
verdicts_end verdict.Yes = refl
verdicts_end (verdict.No path why) = refl

fault_of_verdicts : (stat : Status) → is_fault stat ≡ true → (of_root stat || of_verdicts stat) ≡ true
fault_of_verdicts status.ReadFault e = refl
fault_of_verdicts status.WriteFault e = refl
fault_of_verdicts status.NoMemory e = refl
fault_of_verdicts other e = absurd (false≢true e)

not_loaded_among : (root : List ℕ) (files : Option Files) (stat : Status) → IsNotLoaded root files stat → (of_root stat || of_verdicts stat) ≡ true
not_loaded_among root files stat h = of_first (of_root stat) (of_verdicts stat) (root_among root files stat h)

told_among : (first : Verdict) (stat : Status) → stat ≡ ended first → (of_root stat || of_verdicts stat) ≡ true
told_among first stat e = of_second (of_root stat) (of_verdicts stat) (ap of_verdicts e ∙ verdicts_end first)

compared_versions : (root : List ℕ) (files : Option Files) (stat : Status) → IsNotLoaded root files stat ⊎ VersionsIn root files stat
    → (of_root stat || of_verdicts stat) ≡ true
compared_versions root files stat (inl h) = not_loaded_among root files stat h
compared_versions root files stat (inr c) = told_among c.compared.first stat c.compared.ends

pub versions_among : (root : List ℕ) (files : Option Files) (stat : Status) → (is_fault stat ≡ false → ComparesVersions root files stat)
    → (of_root stat || of_verdicts stat) ≡ true
versions_among root files stat h = elim (cases_Bool (is_fault stat)) [
  | inl e ↦ fault_of_verdicts stat e
  | inr e ↦ compared_versions root files stat (h e).1
]

told_changes : (old new : List ℕ) (files : Option Files) (stat : Status)
    → IsNotLoaded old files stat ⊎ (NewIsNotLoaded old new files stat ⊎ ChangesIn old new files stat)
    → (of_root stat || of_verdicts stat) ≡ true
told_changes old new files stat (inl h) = not_loaded_among old files stat h
told_changes old new files stat (inr (inl h)) = not_loaded_among new files stat h.refused
told_changes old new files stat (inr (inr c)) = told_among c.compared.first stat c.compared.ends

pub changes_among : (old new : List ℕ) (files : Option Files) (stat : Status) → (is_fault stat ≡ false → TellsChanges old new files stat)
    → (of_root stat || of_verdicts stat) ≡ true
changes_among old new files stat h = elim (cases_Bool (is_fault stat)) [
  | inl e ↦ fault_of_verdicts stat e
  | inr e ↦ told_changes old new files stat (h e).1
]

pub bound_among : (plan : Plan) (stat : Status) (before after : Option (List ℕ)) → HasBound plan stat before after → of_text stat ≡ true
bound_among plan status.Ok before after h = refl
bound_among plan status.WriteFault before after h = refl
bound_among plan status.NoMemory before after h = refl
bound_among plan other before after h = absurd h

pub gen_among : (number : ℕ) (stat : Status) (before after : Option (List ℕ)) → HasGenerated number stat before after → of_text stat ≡ true
gen_among number status.Ok before after h = refl
gen_among number status.WriteFault before after h = refl
gen_among number status.NoMemory before after h = refl
gen_among number other before after h = absurd h

end_among : (how : Ended) → of_log (status_of how) ≡ true
end_among end.Ok = refl
end_among (end.Log line why) = refl
end_among end.LogLong = refl
end_among end.ReadFault = refl
end_among end.WriteFault = refl
end_among end.NoMemory = refl

pub log_among : (how : Ended) (stat : Status) → stat ≡ status_of how → of_log stat ≡ true
log_among how stat e = ap of_log e ∙ end_among how

module _ (form : Form) (plan : Plan) (mets : List Met) (refusal : Option LogError) (put : Reported) (failed : Failures) (before after : Option (List ℕ)) where
  ran_among : (stat : Status) → Ran form plan mets refusal stat put failed before after → of_log stat ≡ true
  ran_among status.Ok r = refl
  ran_among (status.Log line why) r = refl
  ran_among status.LogLong r = refl
  ran_among status.ReadFault r = refl
  ran_among status.WriteFault r = refl
  ran_among status.NoMemory r = refl
  ran_among other r = absurd r

-- a run over a log
pub run_among : (form : Form) (plan : Plan) (files : Option Files) (told : Flow) (stat : Status) (put : Reported) (failed : Failures) → HasRun form plan files told stat put failed → of_log stat ≡ true
run_among form plan files told stat put failed r =
    ran_among form plan r.mets (log_of (names_of plan) r.bytes).refusal put failed told.before told.after stat r.ran

pub values_among : (answers : Answering) (message : Option Sch) (name : List ℕ) (stat : Status) (told : Flow) → HasAnsweredLines answers message name stat told → of_values stat ≡ true
values_among answers message name status.Ok told h = refl
values_among answers message name (status.Text line) told h = refl
values_among answers message name (status.Unreadable line path why) told h = refl
values_among answers message name status.LogLong told h = refl
values_among answers message name (status.NoFile path) told h = refl
values_among answers message name status.ReadFault told h = refl
values_among answers message name status.WriteFault told h = refl
values_among answers message name status.NoMemory told h = refl
values_among answers message name other told h = absurd h

-- want of memory may end each call
pub memory_among : (command : Option Command) → (job_asked command).may_end status.NoMemory ≡ true
memory_among None = refl
memory_among (Some (command.Gen number)) = refl
memory_among (Some other) = refl
