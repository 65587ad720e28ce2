-- The plan as far as its lines were read, and what a line makes of it.
use Rattle.std.specs.Prelude.{ℕ, Bool, true, false, List, [], ◌∷◌, ◌++◌, ◌==◌, ◌&&◌, Option, None}
use Rattle.std.specs.Prelude.{Some, Result, Ok, Err, if◌then◌else◌, is_some, length, map, nat_le}
use Rattle.std.specs.Prelude.{nat_lt, set, slice_get, unwrap_or}
use Rattle.std.specs.List.{list_any, position}
use Rattle.std.specs.Str.{bytes_eq}
use Rattle.node_plan.specs.declared.draft.Draft.{Draft}
use Rattle.node_plan.specs.declared.line.PlanVersion.{PlanVersion}
use Rattle.node_plan.specs.declared.line.PlanVersion.TheVariants as version
use Rattle.node_plan.specs.declared.line.Said.{Said}
use Rattle.node_plan.specs.declared.line.Said.TheVariants as said
use Rattle.node_plan.specs.declared.plan.BusPlan.{BusPlan}
use Rattle.node_plan.specs.declared.plan.NodeStatus.{NodeStatus}
use Rattle.node_plan.specs.declared.plan.Plan.{Plan}
use Rattle.node_plan.specs.declared.plan.PlanWhy.{PlanWhy}
use Rattle.node_plan.specs.declared.plan.PlanWhy.TheVariants as why
use Rattle.node_plan.specs.declared.plan.Sub.{Sub}
use Rattle.node_plan.specs.Info.{blank_info}
use Rattle.node_plan.specs.Registers.{can_limit}
use Rattle.std_types.specs.declared.registers.Limits.{Limits}
use Rattle.std_types.specs.declared.registers.Register.{Register}

-- no line yet
abbrev pub start : Draft
start = record {
  version = None;
  node = None;
  buses = [];
  mtu = None;
  rate = None;
  timeout = None;
  silent = false;
  subs = [];
  clients = None;
  status = None;
  info = None;
  registers = [];
  serve = None;
  queue = None;
}

-- whether the lines are those of version 2
abbrev pub is_two : Option PlanVersion → Bool
is_two None = false
is_two (Some version.One) = false
is_two (Some version.Two) = true

-- whether a bus has this name
abbrev pub has_bus : List ℕ → List BusPlan → Bool
has_bus name buses = list_any (λ b. bytes_eq b.name name) buses

-- whether there is a subscription to this subject
abbrev pub has_subject : ℕ → List Sub → Bool
has_subject port subs = list_any (λ s. s.port == port) subs

-- what a line says is kept in a list that may grow: a subscription, a register
abbrev pub grows_a_list : Said → Bool
grows_a_list (said.Sub sub) = true
grows_a_list (said.Register register) = true
grows_a_list other = false

-- what may be said once, where it stands already or not
abbrev pub once : Bool → Draft → Result Draft PlanWhy
once stands new = if stands then Err why.Repeated else Ok new

-- the version's line; that of another version is none
abbrev pub with_version : Draft → Option PlanVersion → PlanVersion → Result Draft PlanWhy
with_version d None v = Ok (record d { version = Some v })
with_version d (Some version.One) version.One = Err why.Repeated
with_version d (Some version.Two) version.Two = Err why.Repeated
with_version d (Some was) v = Err why.Line

-- a bus behind the others, of which there are at most 3
abbrev pub with_bus : Draft → BusPlan → Result Draft PlanWhy
with_bus d bus = if nat_le 3 (length d.buses) then Err why.Range
    else once (has_bus bus.name d.buses) (record d { buses = d.buses ++ bus ∷ [] })

-- a subscription behind the others, of which there are at most 64
abbrev pub with_sub : Draft → Sub → Result Draft PlanWhy
with_sub d s = if nat_le 64 (length d.subs) then Err why.Range
    else once (has_subject s.port d.subs) (record d { subs = d.subs ++ s ∷ [] })

-- a subscription to a type that can't be subscribed to for this cause
abbrev pub without_type : Draft → ℕ → PlanWhy → Result Draft PlanWhy
without_type d port cause = if nat_le 64 (length d.subs) then Err why.Range
    else (if has_subject port d.subs then Err why.Repeated else Err cause)

-- whether a register has this name
abbrev pub has_register : List ℕ → List Register → Bool
has_register name registers = list_any (λ r. bytes_eq r.name name) registers

-- the place of the register with this name, if any
abbrev pub place_of : List ℕ → List Register → Option ℕ
place_of name registers = position (λ r. bytes_eq r.name name) registers

-- a register behind the others, of which there are at most 256
abbrev pub with_register : Draft → Register → Result Draft PlanWhy
with_register d r = if nat_le 256 (length d.registers) then Err why.Range
    else once (has_register r.name d.registers) (record d { registers = d.registers ++ r ∷ [] })

-- a register at a place, with these limits
abbrev pub limited : List Register → ℕ → Limits → Register → List Register
limited registers place limits r = set registers place (record r { limits = Some limits })

-- limits of the register at a place, which keeps its value within them and had none
abbrev pub limited_at : Draft → ℕ → Limits → Option Register → Result Draft PlanWhy
limited_at d place limits None = Err why.Range
limited_at d place limits (Some r) = if can_limit limits r.value
    then once (is_some r.limits) (record d { registers = limited d.registers place limits r })
    else Err why.Range

-- limits of the register at a place, if any
abbrev pub limits_at : Draft → Limits → Option ℕ → Result Draft PlanWhy
limits_at d limits None = Err why.Range
limits_at d limits (Some place) = limited_at d place limits (slice_get d.registers place)

-- limits of a register of an earlier line
abbrev pub with_limits : Draft → List ℕ → Limits → Result Draft PlanWhy
with_limits d name limits = limits_at d limits (place_of name d.registers)

-- a line behind that of the version: range comes before repetition, that before an unknown type,
-- and that before the range of a type's extent
abbrev pub with_line : Draft → Said → Result Draft PlanWhy
with_line d (said.Node n) = once (is_some d.node) (record d { node = Some n })
with_line d (said.Bus bus) = with_bus d bus
with_line d (said.Mtu n) = once (is_some d.mtu) (record d { mtu = Some n })
with_line d (said.Rate n) = once (is_some d.rate) (record d { rate = Some n })
with_line d (said.Timeout t) = once (is_some d.timeout) (record d { timeout = Some t })
with_line d said.Silent = once d.silent (record d { silent = true })
with_line d (said.Sub s) = with_sub d s
with_line d (said.UnknownType port) = without_type d port why.UnknownType
with_line d (said.LongType port) = without_type d port why.Range
with_line d (said.Clients n) = once (is_some d.clients) (record d { clients = Some n })
with_line d (said.Status status) = once (is_some d.status) (record d { status = Some status })
with_line d (said.Info info) = once (is_some d.info) (record d { info = Some info })
with_line d (said.Queue n) = once (is_some d.queue) (record d { queue = Some n })
with_line d (said.Register r) = with_register d r
with_line d (said.Limits name limits) = with_limits d name limits
with_line d (said.Serve path) = once (is_some d.serve) (record d { serve = Some path })
with_line d other = Err why.Range

-- a line: that of the version is the first that says something
abbrev pub step : Draft → Said → Result Draft PlanWhy
step d said.NoForm = Err why.Line
step d said.Nothing = Ok d
step d (said.Version v) = with_version d d.version v
step d says = if is_some d.version then with_line d says else Err why.Line

-- a bus, where an MTU and a rate that were said count for all buses
abbrev pub on_bus : Option ℕ → Option ℕ → BusPlan → BusPlan
on_bus mtu rate bus = record {
  name = bus.name;
  mtu = unwrap_or mtu bus.mtu;
  rate = unwrap_or rate bus.rate;
}

-- the status of a node of which nothing is said
abbrev pub no_status : NodeStatus
no_status = record { health = 0; mode = 0; code = 0 }

-- the plan of a node, with what counts where nothing is said
abbrev pub plan_with : Draft → ℕ → Plan
plan_with d node = record {
  node = node;
  buses = map (on_bus d.mtu d.rate) d.buses;
  timeout = unwrap_or d.timeout 2_000_000;
  silent = d.silent;
  subs = d.subs;
  clients = unwrap_or d.clients 4;
  status = unwrap_or d.status no_status;
  info = unwrap_or d.info blank_info;
  registers = d.registers;
  serve = d.serve;
  queue = unwrap_or d.queue 64;
}

-- whether the lines are there that must be there, beside `node`
abbrev pub has_all : Draft → Bool
has_all d = is_some d.version && nat_lt 0 (length d.buses)

-- the plan, where no line is missing that must be there
abbrev pub complete : Draft → Option Plan
complete d = of_node d.node
  where
    of_node : Option ℕ → Option Plan
    of_node None = None
    of_node (Some node) = if has_all d then Some (plan_with d node) else None
