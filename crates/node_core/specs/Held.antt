-- What a node holds over a log.
use Rattle.std.specs.Prelude.{◌≤◌, List, ◌∷◌}
use Rattle.tail_frame.specs.declared.logged.Record.{Record}
use Rattle.node_plan.specs.declared.plan.Plan.{Plan}
use Rattle.node_core.specs.Steps.{held_at}

-- it never falls, so the last number is the greatest
abbrev pub HeldRises : Type 0
HeldRises = (plan : Plan) (rec : Record) (past : List Record) → held_at plan past ≤ held_at plan (rec ∷ past)
