-- What a command of a plan comes to: why the root has no namespace, or in it what the file at the
-- plan's path gives.
use Rattle.std.specs.Prelude.{◌≡◌, ◌⊎◌, ◌+◌, ◌^◌, ℕ, min, length, false, List, Option, Some, None}
use Rattle.std.specs.Prelude.{IfSome}
use Rattle.std.specs.FinMap as map
use Rattle.cy_outside.specs.Files.{Files, bytes_at, reads_of}
use Rattle.dsdl_types.specs.declared.namespace.Namespace.{Namespace}
use Rattle.node_plan.specs.Plan.{PlanIs, Good, Bad, IsPlanOf}
use Rattle.node_plan.specs.declared.plan.Plan.{Plan}
use Rattle.node_run.specs.Failures.{Failures, tree_counts}
use Rattle.node_run.specs.Loaded.{IsLoaded, IsNotLoaded, calls_of}
use Rattle.node_run.specs.declared.status.Status.{Status}
use Rattle.node_run.specs.declared.status.Status.TheVariants as status
use Rattle.cyphal.specs.Job.{is_fault, CallsAtMost}

-- with which status a command ends over a plan
abbrev pub PlanEnds : Type 1
PlanEnds = Plan → Status → Type 0

-- over what a text is: as its refused line says, or as over the plan
abbrev pub EndsAs : PlanEnds → PlanIs → Status → Type 0
EndsAs ends (Bad n why) stat = stat ≡ status.Plan n why
EndsAs ends (Good plan) stat = ends plan stat

-- over a text that is read in a namespace
pub record EndsOnText (ends : PlanEnds) (names : Namespace) (text : List ℕ)
    (stat : Status) : Type 0 where
  pub plan : PlanIs
  pub is : IsPlanOf names text plan
  pub end : EndsAs ends plan stat

-- over what is at a path: no file, or a text that is read in a namespace
abbrev pub EndsOnFile : PlanEnds → Namespace → List ℕ → Option (List ℕ) → Status → Type 0
EndsOnFile ends names path None stat = stat ≡ status.NoFile path
EndsOnFile ends names path (Some text) stat = EndsOnText ends names text stat

-- in a namespace, where the files are told
abbrev pub EndsIn : PlanEnds → Namespace → List ℕ → Option Files → Status → Type 0
EndsIn ends names path files stat =
    IfSome files (λ tree. EndsOnFile ends names path (map.get tree path) stat)

-- the root has a namespace, and in it the command ends so
pub record EndsInRoot (ends : PlanEnds) (root path : List ℕ) (files : Option Files)
    (stat : Status) : Type 0 where
  pub names : Namespace
  pub is : IsLoaded root files names
  pub end : EndsIn ends names path files stat

-- how a command of a plan ends: as the root says that has no namespace, before any of the plan is
-- read, or as in its namespace
abbrev pub EndsAt : PlanEnds → List ℕ → List ℕ → Option Files → Status → Type 0
EndsAt ends root path files stat = (is_fault stat ≡ false)
    × (IsNotLoaded root files stat ⊎ EndsInRoot ends root path files stat)

-- over no plan: so ends a command that has none
abbrev pub without_plan : PlanEnds
without_plan plan stat = ⊥

-- in a namespace, where the files are told, the file at a path gives this plan
abbrev pub GivesPlan : Namespace → List ℕ → Option Files → Plan → Type 0
GivesPlan names path files plan = IfSome files (λ tree.
    (text : List ℕ) × (map.get tree path ≡ Some text) × IsPlanOf names text (Good plan))

-- the plan is that of the file at a path, read in the namespace of a root
pub record PlanAt (root path : List ℕ) (files : Option Files) (plan : Plan) : Type 0 where
  pub names : Namespace
  pub is : IsLoaded root files names
  pub gives : GivesPlan names path files plan

-- how many calls of a tree with these files the plan at a path takes at most: those of the root's
-- namespace, and the reads of as many bytes as decide which plan it is
abbrev pub plan_calls : List ℕ → List ℕ → Files → ℕ
plan_calls root path files =
    calls_of root files + reads_of (min (2 ^ 20 + 33) (length (bytes_at files path)))

-- in which requests the tree failed, with its calls counted from so many on
abbrev pub counted_from : ℕ → Failures → Failures
counted_from calls f = record f { before = tree_counts f.before.faults calls }

-- The namespace of the root and the plan's text were read first, by at most as many calls of the
-- tree as they take. Of the failures, with the calls counted from there on, this holds.
pub record SinceLoaded (root path : List ℕ) (files : Option Files) (f : Failures)
    (holds : Failures → Type 0) : Type 0 where
  pub calls : ℕ
  pub loaded : CallsAtMost (plan_calls root path) files f.before.calls calls
  pub is : holds (counted_from calls f)
