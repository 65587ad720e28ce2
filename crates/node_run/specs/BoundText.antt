-- The text of the memory bound of a plan.
use Rattle.std.specs.Prelude.{◌≡◌, ℕ, List, [], ◌∷◌, ◌++◌, ◌*◌, Option, codes, decimal}
use Rattle.std.specs.List.{flat_map}
use Rattle.cy_outside.specs.Written.{behind, Begins}
use Rattle.node_plan.specs.Bound.{port_bound, bound_of}
use Rattle.node_plan.specs.Ports.{PlanPort, ports}
use Rattle.node_plan.specs.declared.plan.Plan.{Plan}
use Rattle.text_lines.specs.Text.{kind_text, line_of}
use Rattle.node_run.specs.declared.status.Status.{Status}
use Rattle.node_run.specs.declared.status.Status.TheVariants as status

-- a port, from how many sources it is received, its extent in bytes, and how many bytes it may hold
-- at most
abbrev pub port_words : PlanPort → List (List ℕ)
port_words p =
    codes "port" ∷ kind_text p.kind ∷ decimal p.port ∷ codes "sources" ∷ decimal p.sources
    ∷ codes "extent" ∷ decimal p.extent ∷ codes "bytes" ∷ decimal (port_bound p) ∷ []

-- the line of a port
abbrev pub port_line : PlanPort → List ℕ
port_line p = line_of (port_words p)

-- the words of such a line behind its kind
abbrev pub port_numbers : ℕ → ℕ → ℕ → List ℕ
port_numbers port sources extent = line_of (
    decimal port ∷ codes "sources" ∷ decimal sources ∷ codes "extent" ∷ decimal extent
    ∷ codes "bytes" ∷ decimal (sources * extent) ∷ []
    )

-- the line of the memory bound
abbrev pub bound_line : ℕ → List ℕ
bound_line bound = line_of (codes "bound" ∷ decimal bound ∷ [])

-- the line of each port of the plan, its subscriptions before its services, and that of the memory
-- bound
abbrev pub bound_text : Plan → List ℕ
bound_text plan = flat_map port_line (ports plan) ++ bound_line (bound_of plan)

-- what is written of the memory bound of a plan, by the status
abbrev pub HasBound : Plan → Status → Option (List ℕ) → Option (List ℕ) → Type 0
HasBound plan status.Ok before after = after ≡ behind before (bound_text plan)
HasBound plan status.WriteFault before after = Begins (bound_text plan) before after
HasBound plan status.NoMemory before after = after ≡ before
HasBound plan other before after = ⊥
