-- What holds of each plan that a text gives.
use Rattle.std.specs.Prelude.{◌≡◌, ◌≢◌, ◌≤◌, ◌<◌, ◌⊎◌, ℕ, List, [], ◌∷◌, length, All, AllPairs}
use Rattle.std.specs.Prelude.{IsTrue}
use Rattle.std.specs.Option.{ForSome}
use Rattle.std.specs.Str.{is_utf8}
use Rattle.dsdl_types.specs.Definitions.{IsType}
use Rattle.node_plan.specs.declared.draft.Draft.{Draft}
use Rattle.node_plan.specs.declared.plan.BusPlan.{BusPlan}
use Rattle.node_plan.specs.declared.plan.Plan.{Plan}
use Rattle.node_plan.specs.declared.plan.Sub.{Sub}
use Rattle.node_plan.specs.declared.plan.SubShape.{SubShape}
use Rattle.node_plan.specs.declared.plan.SubShape.TheVariants as shape
use Rattle.std_types.specs.Node.{FitsNodeInfo}
use Rattle.std_types.specs.declared.node.NodeInfo.{NodeInfo}
use Rattle.node_plan.specs.declared.plan.NodeStatus.{NodeStatus}
use Rattle.node_plan.specs.Ports.{extent_of}
use Rattle.node_plan.specs.Names.{is_bus_name}
use Rattle.node_plan.specs.Registers.{IsRegister}
use Rattle.node_plan.specs.Words.{words_of}

-- frames carry at most 8 bytes, or 64
abbrev pub IsMtu : ℕ → Type 0
IsMtu n = (n ≡ 8) ⊎ (n ≡ 64)

-- from 1 to 4,096 frames leave the queue of a bus after a step
abbrev pub IsRate : ℕ → Type 0
IsRate n = (1 ≤ n) × (n ≤ 4096)

-- a bus in its ranges
pub record IsBus (bus : BusPlan) : Type 0 where
  pub some_byte : 1 ≤ length bus.name
  pub bytes : IsTrue (is_bus_name bus.name)
  pub mtu : IsMtu bus.mtu
  pub some_rate : 1 ≤ bus.rate
  pub low_rate : bus.rate ≤ 4096

-- a status in its ranges
pub record IsStatus (status : NodeStatus) : Type 0 where
  pub health : status.health ≤ 3
  pub mode : status.mode ≤ 3
  pub code : status.code < 256

-- what a node says that it is: the protocol is 1.0, and there is neither a CRC of the software nor
-- a certificate
pub record IsInfo (info : NodeInfo) : Type 0 where
  pub fits : FitsNodeInfo info
  pub protocol : info.protocol_version ≡ record { major = 1; minor = 0 }
  pub no_crc : info.software_image_crc ≡ []
  pub no_certificate : info.certificate_of_authenticity ≡ []

-- a type is a composite that keeps the rules
abbrev pub IsShape : SubShape → Type 0
IsShape (shape.Raw n) = Unit {0}
IsShape (shape.Named id s) = IsType s

-- a subscription in its ranges
pub record IsSub (sub : Sub) : Type 0 where
  pub port : sub.port < 8192
  pub some_source : 1 ≤ sub.sources
  pub few_sources : sub.sources ≤ 128
  pub shape : IsShape sub.shape
  pub extent : extent_of sub.shape ≤ 65536

-- the path of a folder to serve: a word of UTF-8 that isn't empty
pub record IsFolderPath (path : List ℕ) : Type 0 where
  pub some_byte : 1 ≤ length path
  pub text : IsTrue (is_utf8 path)
  pub word : words_of path ≡ path ∷ []

-- a plan in its ranges, which names no bus, no subject and no register twice
pub record IsPlan (plan : Plan) : Type 0 where
  pub node : plan.node < 128
  pub some_bus : 1 ≤ length plan.buses
  pub few_buses : length plan.buses ≤ 3
  pub buses : All IsBus plan.buses
  pub names : AllPairs (λ a b. a.name ≢ b.name) plan.buses
  pub some_timeout : 1 ≤ plan.timeout
  pub short_timeout : plan.timeout ≤ 60_000_000
  pub few_subs : length plan.subs ≤ 64
  pub subs : All IsSub plan.subs
  pub subjects : AllPairs (λ a b. a.port ≢ b.port) plan.subs
  pub some_client : 1 ≤ plan.clients
  pub few_clients : plan.clients ≤ 128
  pub status : IsStatus plan.status
  pub info : IsInfo plan.info
  pub few_registers : length plan.registers ≤ 256
  pub registers : All IsRegister plan.registers
  pub register_names : AllPairs (λ a b. a.name ≢ b.name) plan.registers
  pub serve : ForSome plan.serve IsFolderPath
  pub some_place : 1 ≤ plan.queue
  pub few_places : plan.queue ≤ 4096

-- what holds of the plan as far as its lines were read
pub record IsDraft (draft : Draft) : Type 0 where
  pub node : ForSome draft.node (λ n. n < 128)
  pub few_buses : length draft.buses ≤ 3
  pub buses : All IsBus draft.buses
  pub names : AllPairs (λ a b. a.name ≢ b.name) draft.buses
  pub mtu : ForSome draft.mtu IsMtu
  pub rate : ForSome draft.rate IsRate
  pub timeout : ForSome draft.timeout (λ t. (1 ≤ t) × (t ≤ 60_000_000))
  pub few_subs : length draft.subs ≤ 64
  pub subs : All IsSub draft.subs
  pub subjects : AllPairs (λ a b. a.port ≢ b.port) draft.subs
  pub clients : ForSome draft.clients (λ n. (1 ≤ n) × (n ≤ 128))
  pub status : ForSome draft.status IsStatus
  pub info : ForSome draft.info IsInfo
  pub few_registers : length draft.registers ≤ 256
  pub registers : All IsRegister draft.registers
  pub register_names : AllPairs (λ a b. a.name ≢ b.name) draft.registers
  pub serve : ForSome draft.serve IsFolderPath
  pub queue : ForSome draft.queue (λ n. (1 ≤ n) × (n ≤ 4096))

-- the types of a plan's subscriptions keep the rules
abbrev pub TypesKeepRules : Plan → Type 0
TypesKeepRules plan = All (λ sub. IsShape sub.shape) plan.subs
