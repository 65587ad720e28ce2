-- What the answers of the calls say.
use Rattle.std.specs.Prelude.{◌≡◌, ℕ, List, true, Result, Ok, Err}
use Rattle.dsdl_types.specs.declared.namespace.Namespace.{Namespace}
use Rattle.node_plan.specs.declared.draft.Draft.{Draft}
use Rattle.node_plan.specs.declared.plan.Plan.{Plan}
use Rattle.node_plan.specs.declared.plan.PlanError.{PlanError}
use Rattle.node_plan.specs.declared.plan.PlanError.TheVariants as error
use Rattle.node_plan.specs.declared.plan.PlanWhy.{PlanWhy}
use Rattle.node_plan.specs.Limit.{is_version_two}
use Rattle.node_plan.specs.Migrate.{migrated}
use Rattle.node_plan.specs.Plan.{PlanIs, Good, Bad, IsPlanOf}

-- the draft after line n is the step's, unless memory was wanted
abbrev pub IsStep : Result Draft PlanWhy → ℕ → Draft → Result (Unit {0}) PlanError
    → Type 0
IsStep step n new (Ok u) = step ≡ Ok new
IsStep step n new (Err (error.Refused k why)) = (k ≡ n) × (step ≡ Err why)
IsStep step n new (Err error.NoMemory) = Unit {0}

-- a plan, or a refusal, unless memory was wanted
abbrev pub IsPlanAnswer : (PlanIs → Type 0) → Result Plan PlanError → Type 0
IsPlanAnswer Is (Ok plan) = Is (Good plan)
IsPlanAnswer Is (Err (error.Refused n why)) = Is (Bad n why)
IsPlanAnswer Is (Err error.NoMemory) = Unit {0}

-- t is what the text of a plan becomes: of version 2, and a text of the same plan
abbrev pub IsMigrated : Namespace → List ℕ → List ℕ → Type 0
IsMigrated names text t = (plan : Plan) × IsPlanOf names text (Good plan)
    × (t ≡ migrated plan text) × IsPlanOf names t (Good plan) × (is_version_two t ≡ true)
