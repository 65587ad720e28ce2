-- The plan of a text. A value's text is what is printed of it, and no function reads one; so what a
-- plan's text says is a relation.
use Rattle.std.specs.Prelude.{◌≡◌, ℕ, Bool, true, false, List, [], ◌∷◌, ◌+◌, Option, None, Some}
use Rattle.std.specs.Prelude.{Result, Ok, Err, length, nat_lt, take}
use Rattle.dsdl_types.specs.declared.namespace.Namespace.{Namespace}
use Rattle.node_plan.specs.declared.draft.Draft.{Draft}
use Rattle.node_plan.specs.declared.line.Said.{Said}
use Rattle.node_plan.specs.declared.plan.Plan.{Plan}
use Rattle.node_plan.specs.declared.plan.PlanWhy.{PlanWhy}
use Rattle.node_plan.specs.declared.plan.PlanWhy.TheVariants as why
use Rattle.node_plan.specs.Words.{parts_of}
use Rattle.node_plan.specs.Line.{Says}
use Rattle.node_plan.specs.Draft.{start, step, complete, is_two}
use Rattle.node_plan.specs.Limit.{limit_of}

-- a plan, or the number of the line that is refused and why
pub data PlanIs : Type 0 where
  Good : Plan → PlanIs
  Bad : ℕ → PlanWhy → PlanIs

-- the plan of all lines, where n is the number of the line that would follow: none is missing
abbrev pub finished : Draft → ℕ → PlanIs
finished d n = of_plan (complete d)
  where
    of_plan : Option Plan → PlanIs
    of_plan None = Bad n why.Line
    of_plan (Some plan) = Good plan

-- what a line with the number n made of a draft, and then the others
abbrev pub Follows : Result Draft PlanWhy → ℕ → (Draft → PlanIs → Type 0) → PlanIs → Type 0
Follows (Err e) n Others is = is ≡ Bad n e
Follows (Ok d) n Others is = Others d is

-- what a line with the number n says, and then the others
abbrev pub Line : Namespace → Draft → ℕ → List ℕ → (Draft → PlanIs → Type 0) → PlanIs → Type 0
Line names d n line Others is =
    (said : Said) × Says names (is_two d.version) line said × Follows (step d said) n Others is

-- What stands behind the last newline is a line where it isn't empty; it is refused where it
-- reaches past the greatest number of bytes.
abbrev pub Ends : Namespace → Bool → Draft → ℕ → List ℕ → PlanIs → Type 0
Ends names true d n part is = is ≡ Bad n why.Line
Ends names false d n [] is = is ≡ finished d n
Ends names false d n (b ∷ s) is = Line names d n (b ∷ s) (λ new is. is ≡ finished new (n + 1)) is

-- the parts between newlines are lines from the number n on, of a text that is too long or not
abbrev pub Goes : Namespace → Bool → Draft → ℕ → List (List ℕ) → PlanIs → Type 0
Goes names is_long d n [] is = Ends names is_long d n [] is
Goes names is_long d n (part ∷ []) is = Ends names is_long d n part is
Goes names is_long d n (line ∷ part ∷ parts) is =
    Line names d n line (λ new is. Goes names is_long new (n + 1) (part ∷ parts) is) is

-- the plan of a text of which so many bytes count
abbrev pub IsPlanWithin : Namespace → ℕ → List ℕ → PlanIs → Type 0
IsPlanWithin names most text =
    Goes names (nat_lt most (length text)) start 1 (parts_of 10 (take most text))

-- the plan of a text, with the types of a namespace
abbrev pub IsPlanOf : Namespace → List ℕ → PlanIs → Type 0
IsPlanOf names text = IsPlanWithin names (limit_of text) text
