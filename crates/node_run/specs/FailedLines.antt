-- The lines that a run names: those on which requests of files ended in which the tree failed.
use Rattle.std.specs.Prelude.{◌≡◌, ℕ, true, List, [], ◌∷◌, ◌++◌, All, Option, Some}
use Rattle.std.specs.List.Sorted.{IsStrictlyIncreasing}
use Rattle.cy_outside.specs.Files.{Files}
use Rattle.node_plan.specs.declared.plan.Plan.{Plan}
use Rattle.node_core.specs.Files.{is_failed}
use Rattle.node_core.specs.Steps.{Met, got, met_records, request_on}
use Rattle.node_core.specs.declared.request.Request.{Request}
use Rattle.node_run.specs.Failures.{HasRisen, TreeCounts, failures}
use Rattle.node_run.specs.Forms.{Form}
use Rattle.node_run.specs.HasRun.{HasRun}
use Rattle.node_run.specs.Ran.{Reported}
use Rattle.node_run.specs.ValueLines.{Flow}
use Rattle.node_run.specs.declared.status.Status.{Status}

-- a line is that of one of these records, the newest first, on which a request ended in which the
-- tree failed
pub record EndsFailed (plan : Plan) (mets : List Met) (line : ℕ) : Type 0 where
  pub newer : List Met
  pub last : Met
  pub past : List Met
  pub parts : mets ≡ newer ++ last ∷ past
  pub line_is : line ≡ last.rec.line
  pub request : Request
  pub ended : request_on plan last.rec (got plan last.rec (met_records past)) ≡ Some request
  pub failed : is_failed last.file ≡ true

-- these lines rise, and each is one on which such a request ended
pub record NamesRequests (plan : Plan) (mets : List Met) (lines : List ℕ) : Type 0 where
  pub rise : IsStrictlyIncreasing lines
  pub ended : All (EndsFailed plan mets) lines

-- a run that had named none before names such lines, and no more of them than the tree's count rose
-- by, unless that stands at its end
abbrev pub FailedAreNamed : Type 0
FailedAreNamed =
    (form : Form) (plan : Plan) (files : Option Files) (flow : Flow) (stat : Status) (r : Reported)
    (lines : List ℕ) (before now : TreeCounts)
    → (h : HasRun form plan files flow stat r (failures (Some []) (Some lines) before now))
    → NamesRequests plan h.mets lines × HasRisen lines before.faults now.faults
