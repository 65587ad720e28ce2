-- What holds of each plan.
use Rattle.std.specs.Prelude.{◌≡◌, ◌↔◌, ◌≤◌, ◌+◌, ◌^◌, ℕ, List, All, AllPairs, length, take}
use Rattle.dsdl_types.specs.Definitions.{IsNamespace}
use Rattle.dsdl_types.specs.declared.namespace.Namespace.{Namespace}
use Rattle.node_plan.specs.IsPlan.{IsPlan, TypesKeepRules}
use Rattle.node_plan.specs.Ports.{Differ, IsPort, ports}
use Rattle.node_plan.specs.PlainPlan.{plan_of}
use Rattle.node_plan.specs.Plan.{Good, IsPlanOf, PlanIs}
use Rattle.node_plan.specs.declared.plan.Plan.{Plan}

-- its types keep the rules, where those of the namespace do
abbrev pub PlansKeepTypeRules : Type 0
PlansKeepTypeRules =
    (names : Namespace) (text : List ℕ) (plan : Plan) → IsNamespace names
    → IsPlanOf names text (Good plan) → TypesKeepRules plan

-- a text has one meaning
abbrev pub OnePlan : Type 0
OnePlan = (names : Namespace) (text : List ℕ) (is also : PlanIs)
    → IsPlanOf names text is → IsPlanOf names text also → is ≡ also

-- where a plan is worked out of a text without registers, it is that text's
abbrev pub PlainPlans : Type 0
PlainPlans = (names : Namespace) (text : List ℕ) (plan : Plan)
    → plan_of names text ≡ Good plan → IsPlanOf names text (Good plan)

-- its ports are in their ranges
abbrev pub PortsFit : Type 0
PortsFit = (plan : Plan) → IsPlan plan → All IsPort (ports plan)

-- no key is that of two of its ports
abbrev pub PortsDiffer : Type 0
PortsDiffer = (plan : Plan) → IsPlan plan → AllPairs Differ (ports plan)

-- a byte more than a text may have decides: the first bytes of a text have its meaning
abbrev pub FrontDecides : Type 0
FrontDecides = (names : Namespace) (text : List ℕ) (is : PlanIs)
    → IsPlanOf names (take (2 ^ 20 + 33) text) is ↔ IsPlanOf names text is

-- and a text that is a plan's isn't longer than a text may be
abbrev pub PlansAreShort : Type 0
PlansAreShort = (names : Namespace) (text : List ℕ) (plan : Plan)
    → IsPlanOf names text (Good plan) → length text ≤ 2 ^ 20 + 32
