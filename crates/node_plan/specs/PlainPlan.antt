-- The plan of a text without registers, worked out.
use Rattle.std.specs.Prelude.{ℕ, List, [], ◌∷◌, ◌+◌, Result, Ok, Err, if◌then◌else◌, length, nat_lt}
use Rattle.std.specs.Prelude.{take}
use Rattle.dsdl_types.specs.declared.namespace.Namespace.{Namespace}
use Rattle.node_plan.specs.declared.draft.Draft.{Draft}
use Rattle.node_plan.specs.declared.plan.PlanWhy.{PlanWhy}
use Rattle.node_plan.specs.declared.plan.PlanWhy.TheVariants as why
use Rattle.node_plan.specs.Draft.{start, step, is_two}
use Rattle.node_plan.specs.Limit.{limit_of}
use Rattle.node_plan.specs.Line.{said_of}
use Rattle.node_plan.specs.Plan.{PlanIs, Bad, finished}
use Rattle.node_plan.specs.Words.{parts_of}

-- a line with the number n, and then the others
abbrev pub followed : Result Draft PlanWhy → ℕ → (Draft → PlanIs) → PlanIs
followed (Err e) n others = Bad n e
followed (Ok d) n others = others d

-- what stands behind the last newline is a line where it isn't empty
abbrev pub last_line : Namespace → Draft → ℕ → List ℕ → PlanIs
last_line names d n [] = finished d n
last_line names d n (b ∷ s) =
    followed (step d (said_of names (is_two d.version) (b ∷ s))) n (λ new. finished new (n + 1))

-- a line that reaches past the greatest number of bytes
abbrev pub long_line : Draft → ℕ → List ℕ → PlanIs
long_line d n part = Bad n why.Line

-- the parts between newlines are lines from the number n on, and `last` says what is made of the
-- part behind them
abbrev pub plan_of_parts : Namespace → (Draft → ℕ → List ℕ → PlanIs) → Draft → ℕ
    → List (List ℕ) → PlanIs
plan_of_parts names last d n [] = last d n []
plan_of_parts names last d n (part ∷ []) = last d n part
plan_of_parts names last d n (line ∷ part ∷ parts) =
    followed (step d (said_of names (is_two d.version) line)) n
    (λ new. plan_of_parts names last new (n + 1) (part ∷ parts))

-- the plan of a text of which so many bytes count
abbrev pub plan_within : Namespace → ℕ → List ℕ → PlanIs
plan_within names most text =
    plan_of_parts names (if nat_lt most (length text) then long_line else last_line names) start 1
    (parts_of 10 (take most text))

-- the plan of a text without registers; a line that says a register is none
abbrev pub plan_of : Namespace → List ℕ → PlanIs
plan_of names text = plan_within names (limit_of text) text
