-- The ports of a plan: what a node receives, from how many nodes, and what it is read as.
use Rattle.std.specs.Prelude.{◌≡◌, ◌≢◌, ℕ, ◌/◌, ◌<◌, ◌≤◌, true, List, [], ◌∷◌, ◌++◌, Option, Some}
use Rattle.std.specs.Prelude.{None, IfSome, is_some, map, option_map, if◌then◌else◌}
use Rattle.can_id.specs.declared.key.Kind.{Kind}
use Rattle.can_id.specs.declared.key.Kind.TheVariants as kind
use Rattle.dsdl_types.specs.Rules.{IsSchema}
use Rattle.dsdl_types.specs.Schemas as S
use Rattle.dsdl_types.specs.Schemas.{Sch, is_composite}
use Rattle.dsdl_types.specs.Views.{sch}
use Rattle.std_types.specs.Ports.{get_info_service, register_access_service, register_list_service}
use Rattle.std_types.specs.Ports.{file_get_info_service, file_list_service, file_modify_service}
use Rattle.std_types.specs.Ports.{file_read_service, file_write_service}
use Rattle.std_types.specs.Types.{schema_of}
use Rattle.std_types.specs.declared.std_name.StdName.{StdName}
use Rattle.std_types.specs.declared.std_name.StdName.TheVariants as N
use Rattle.std_types.specs.declared.registers.Register.{Register}
use Rattle.node_plan.specs.declared.plan.Plan.{Plan}
use Rattle.node_plan.specs.declared.plan.Sub.{Sub}
use Rattle.node_plan.specs.declared.plan.SubShape.{SubShape}
use Rattle.node_plan.specs.declared.plan.SubShape.TheVariants as shape
use Rattle.node_plan.specs.declared.services.Service.{Service}

-- a port, its extent in bytes, and its type; a port without a type is read as bytes
pub record PlanPort : Type 0 where
  pub kind : Kind
  pub port : ℕ
  pub sources : ℕ
  pub extent : ℕ
  pub type : Option Sch

-- the extent of a subject in bytes
abbrev pub extent_of : SubShape → ℕ
extent_of (shape.Raw n) = n
extent_of (shape.Named id s) = S.extent_of (sch s) / 8

-- the type that payloads are read as; bytes have none
abbrev pub type_in : SubShape → Option Sch
type_in (shape.Raw extent) = None
type_in (shape.Named id s) = Some (sch s)

-- the port of a subscription
abbrev pub port_of_sub : Sub → PlanPort
port_of_sub s = record {
  kind = kind.Message;
  port = s.port;
  sources = s.sources;
  extent = extent_of s.shape;
  type = type_in s.shape;
}

-- a service of this number for the clients of a plan, by the type of its requests, if any
abbrev pub service : Plan → ℕ → Option StdName → Service
service plan port request = record { port = port; sources = plan.clients; request = request }

-- `uavcan.node.GetInfo`, unless the node is silent
abbrev pub status_services : Plan → List Service
status_services plan =
    if plan.silent then [] else service plan get_info_service (Some N.NodeInfoRequest) ∷ []

-- `uavcan.register.Access` and `List`, where there is a register
abbrev pub register_services : Plan → List Service
register_services plan = of_registers plan.registers
  where
    of_registers : List Register → List Service
    of_registers [] = []
    of_registers (r ∷ rs) =
        service plan register_access_service (Some N.AccessRequest)
        ∷ service plan register_list_service (Some N.ListRequest) ∷ []

-- the services of `uavcan.file`, where there is a folder to serve; requests to `Modify` and `Write`
-- have no type
abbrev pub file_services : Plan → List Service
file_services plan = if is_some plan.serve
    then service plan file_get_info_service (Some N.InfoRequest)
    ∷ service plan file_list_service (Some N.FileListRequest)
    ∷ service plan file_modify_service None
    ∷ service plan file_read_service (Some N.ReadRequest)
    ∷ service plan file_write_service None ∷ []
    else []

-- the services that a node answers
abbrev pub services : Plan → List Service
services plan = status_services plan ++ register_services plan ++ file_services plan

-- the extent of a standard type in bytes
abbrev pub bytes_of : StdName → ℕ
bytes_of name = S.extent_of (schema_of name) / 8

-- the extent of requests in bytes, by their type; of those without a type no byte is kept
abbrev pub request_extent : Option StdName → ℕ
request_extent None = 0
request_extent (Some name) = bytes_of name

-- the extent of a service's requests in bytes
abbrev pub service_extent : Service → ℕ
service_extent s = request_extent s.request

-- the port of a service's requests
abbrev pub port_of_service : Service → PlanPort
port_of_service s = record {
  kind = kind.Request;
  port = s.port;
  sources = s.sources;
  extent = service_extent s;
  type = option_map schema_of s.request;
}

-- the ports of a plan: its subscriptions, and then its services
abbrev pub ports : Plan → List PlanPort
ports plan = map port_of_sub plan.subs ++ map port_of_service (services plan)

-- the types of the requests of the services that a node answers; two have none
abbrev pub IsRequest : Option StdName → Type 0
IsRequest None = Unit {0}
IsRequest (Some N.NodeInfoRequest) = Unit {0}
IsRequest (Some N.AccessRequest) = Unit {0}
IsRequest (Some N.ListRequest) = Unit {0}
IsRequest (Some N.InfoRequest) = Unit {0}
IsRequest (Some N.FileListRequest) = Unit {0}
IsRequest (Some N.ReadRequest) = Unit {0}
IsRequest other = ⊥

-- a service in its ranges
pub record IsService (s : Service) : Type 0 where
  pub port : s.port < 512
  pub some_source : 1 ≤ s.sources
  pub few_sources : s.sources ≤ 128
  pub request : IsRequest s.request

-- the greatest number of a port of a kind: 8,191 of a subject, 511 of a service
abbrev pub max_port : Kind → ℕ
max_port kind.Message = 8191
max_port kind.Request = 511
max_port kind.Response = 511

-- a port in its ranges, whose type is a composite that keeps the rules
pub record IsPort (p : PlanPort) : Type 0 where
  pub port : p.port ≤ max_port p.kind
  pub some_source : 1 ≤ p.sources
  pub few_sources : p.sources ≤ 128
  pub extent : p.extent ≤ 65536
  pub type : IfSome p.type (λ s. IsSchema s × (is_composite s ≡ true))

-- two ports that no key fits both of
abbrev pub Differ : PlanPort → PlanPort → Type 0
Differ a b = a.kind ≡ b.kind → a.port ≢ b.port
