-- The ports of a node, and the frames that are on none of them.
use Rattle.std.specs.Prelude.{◌≡◌, ℕ, if◌then◌else◌, List, map, Option, Some, None}
use Rattle.can_id.specs.Identifiers.{is_set, field}
use Rattle.tail_frame.specs.Frames.{FrameOf}
use Rattle.tail_frame.specs.declared.logged.Record.{Record}
use Rattle.rx_table.specs.Heard.{frame_for}
use Rattle.rx_table.specs.Ports.{Port}
use Rattle.rx_table.specs.Table.{port_on}
use Rattle.node_plan.specs.Ports.{PlanPort, ports}
use Rattle.node_plan.specs.declared.plan.Plan.{Plan}

-- the port of a table that a port of a plan is
abbrev pub table_port : PlanPort → Port
table_port p = record { kind = p.kind; port = p.port; sources = p.sources; extent = p.extent }

-- the ports of a plan, in its order
abbrev pub ports_of : Plan → List Port
ports_of plan = map table_port (ports plan)

-- the subject that a message's identifier says
abbrev pub subject_in : ℕ → Option ℕ
subject_in n = if is_set n 25 then None else Some (field n 8 13)

-- if a record is a frame, it is on none of these ports
abbrev pub IsElsewhere : List Port → Record → Type 0
IsElsewhere ports rec = (node : ℕ) (f : FrameOf) → frame_for node rec ≡ Some f → port_on ports f ≡ None
