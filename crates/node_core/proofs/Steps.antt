-- One step of a node.
use Rattle.std.proofs.Common.{◌≡◌, ◌∙◌, ℕ, List, ◌∷◌, Option, Some, Result, Ok, Err, OnErr, OnOk, sym, ap, subst}
use Rattle.can_id.specs.Identifiers.{key_of}
use Rattle.dsdl_types.specs.Schemas.{Sch}
use Rattle.node_core.specs.Heard.{ports_of}
use Rattle.tail_frame.specs.Frames.{FrameOf}
use Rattle.tail_frame.specs.declared.logged.Record.{Record}
use Rattle.rx_table.specs.Keys.{KeyedFrame}
use Rattle.rx_table.specs.Laws.{OutcomeTells}
use Rattle.rx_table.specs.Ports.{Port, PortState, Answer}
use Rattle.rx_table.specs.Table.{Opens, StandsFor, logged, port_on, states, Told}
use Rattle.rx_table.specs.Views.{Keeps, Answers, OpensOne}
use Rattle.rx_table.specs.declared.table.Table.{Table}
use Rattle.node_plan.specs.Ports.{ports}
use Rattle.node_plan.specs.declared.plan.Plan.{Plan}
use Rattle.node_core.specs.declared.node.Node.{Node}
use Rattle.rx_table.specs.Heard.{frame_for, with_frame, frames}
use Rattle.node_core.specs.Stands.{FrameOpens, StandsAt, Stands}
use Rattle.node_core.specs.Steps.{on_port, bad_on_port}
use Rattle.node_core.specs.Shapes.{port_schema, shape_extent}
use Rattle.node_core.specs.Told.{answer_lines, answer_is_bad}
use Rattle.node_core.specs.Types.{type_at}
use Rattle.node_core.specs.declared.port_shape.PortShape.{PortShape}
use Rattle.node_core.proofs.Told.{told_lines, told_bad}
use Rattle.node_core.proofs.Types.{first_type, types_stay}

-- what holds holds where a call answers Err
pub on_err : {A E : Type 0} (P : Type 0) (r : Result A E) → P → OnErr r P
on_err P (Ok a) h = tt
on_err P (Err e) h = h

-- and where it answers Ok
pub on_ok : {A E : Type 0} (P : Type 0) (r : Result A E) → P → OnOk r P
on_ok P (Ok a) h = h
on_ok P (Err e) h = tt

-- a table with the plan's timeout
pub stands_again : (waits timeout : ℕ) (old new : List KeyedFrame) (ps qs : List PortState) → waits ≡ timeout → (StandsFor waits old ps → StandsFor waits new qs) → StandsFor timeout old ps → StandsFor timeout new qs
stands_again waits timeout old new ps qs e f s = subst (λ t. StandsFor t new qs) e (f (subst (λ t. StandsFor t old ps) (sym e) s))

-- where it has the plan's ports too, what it tells is of these
pub planned : (waits timeout : ℕ) (ports of_plan : List Port) (f : FrameOf) (log : List KeyedFrame) (ps : List PortState) (answer : Answer)
    → waits ≡ timeout → ports ≡ of_plan → (StandsFor waits log ps → Told waits ports f log answer) → StandsFor timeout log ps
    → Told timeout of_plan f log answer
planned waits timeout ports of_plan f log ps answer e q told s =
    subst (λ t. Told t of_plan f log answer) e
    (subst (λ (t : List Port). Told waits t f log answer) q (told (subst (λ t. StandsFor t log ps) (sym e) s)))

-- a table tells the lines of a frame, also where its sessions changed since
pub hear_lines : OutcomeTells → (node : Node) (table : Table PortShape) (f : FrameOf) (log : List KeyedFrame) (answer : Answer)
    → Keeps port_schema node.table table → StandsAt node log → Answers port_schema node.table f answer
    → answer_lines (type_at table (key_of f.ident)) f answer ≡ on_port node.plan f log (port_on (ports_of node.plan) f)
hear_lines tells node table f log answer keeps s told =
    let key = key_of f.ident in
    let type_is = first_type key.kind key.port table.ports.items (ports node.plan) (keeps.ports ∙ s.ports_are) (types_stay (ports node.plan) node.table table keeps.shapes s.types).types in
    ap (λ (t : Option Sch). answer_lines t f answer) type_is
    ∙ told_lines tells node.plan (ports_of node.plan) f log answer (planned _ _ _ _ f log _ answer s.timeout s.ports_are (told log) s.sessions)

pub hear_bad : OutcomeTells → (node : Node) (f : FrameOf) (log : List KeyedFrame) (answer : Answer)
    → StandsAt node log → Answers port_schema node.table f answer
    → answer_is_bad answer ≡ bad_on_port node.plan.timeout f log (port_on (ports_of node.plan) f)
hear_bad tells node f log answer s told =
    told_bad tells node.plan (ports_of node.plan) f log answer (planned _ _ _ _ f log _ answer s.timeout s.ports_are (told log) s.sessions)

-- a frame that opens a session of the table opens one of the plan's ports
pub frame_opens : (node : Node) (f : FrameOf) → OpensOne port_schema node.table f → FrameOpens node f
frame_opens node f opens log s =
    subst (λ (ports : List Port). Opens ports f log) s.ports_are
    (opens log (subst (λ t. StandsFor t log (states shape_extent node.table.ports.items)) (sym s.timeout) s.sessions))

-- a record that is a frame for the node
pub frame_stands : (old new : Node) (rec : Record) (f : FrameOf) → new.plan ≡ old.plan → Some f ≡ frame_for old.plan.node rec
    → ((log : List KeyedFrame) → StandsAt old log → StandsAt new (logged f log)) → (past : List Record) → Stands old past → Stands new (rec ∷ past)
frame_stands old new rec f plan_is frame_is h past s =
    let e : frames new.plan.node (rec ∷ past) ≡ logged f (frames old.plan.node past) =
    ap (λ (p : Plan). frames p.node (rec ∷ past)) plan_is ∙ ap (λ (o : Option FrameOf). with_frame o (frames old.plan.node past)) (sym frame_is) in
    subst (StandsAt new) (sym e) (h (frames old.plan.node past) s)

-- a node whose sessions stayed
pub stands_as_before : (old new : Node) → new.plan ≡ old.plan
    → ((log : List KeyedFrame) → StandsAt old log → StandsAt new log) → (past : List Record) → Stands old past → Stands new past
stands_as_before old new plan_is h past s =
    let e : frames new.plan.node past ≡ frames old.plan.node past = ap (λ (p : Plan). frames p.node past) plan_is in
    subst (StandsAt new) (sym e) (h (frames old.plan.node past) s)
