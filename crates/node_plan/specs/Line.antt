-- What a line of a plan says.
use Rattle.std.specs.Prelude.{◌≡◌, ℕ, Bool, true, false, List, [], ◌∷◌, ◌==◌, ◌&&◌, ◌||◌, ◌≤◌, ◌<◌}
use Rattle.std.specs.Prelude.{Option, Some, None, if◌then◌else◌, int_le, length, codes, nat_lt, not}
use Rattle.std.specs.Str.{bytes_eq, is_utf8}
use Rattle.dsdl_types.specs.declared.namespace.Namespace.{Namespace}
use Rattle.node_plan.specs.declared.line.PlanVersion.TheVariants as version
use Rattle.node_plan.specs.declared.line.Said.{Said}
use Rattle.node_plan.specs.declared.line.Said.TheVariants as said
use Rattle.node_plan.specs.declared.plan.SubShape.{SubShape}
use Rattle.node_plan.specs.declared.plan.SubShape.TheVariants as shape
use Rattle.node_plan.specs.declared.words.Number.{Number}
use Rattle.node_plan.specs.declared.words.Number.TheVariants as number
use Rattle.node_plan.specs.declared.words.Whole.{Whole}
use Rattle.node_plan.specs.declared.words.Whole.TheVariants as whole
use Rattle.node_plan.specs.Info.{said_of_info, version_in}
use Rattle.node_plan.specs.IsPlan.{IsBus, IsFolderPath, IsInfo, IsMtu, IsRate, IsStatus, IsSub}
use Rattle.node_plan.specs.Names.{is_bus_name}
use Rattle.node_plan.specs.Ports.{extent_of}
use Rattle.node_plan.specs.Registers.{IsRegister, Reads, is_register_name}
use Rattle.node_plan.specs.Types.{shape_named}
use Rattle.node_plan.specs.Words.{joined, mtu_in, number_in, whole_in, words_of}
use Rattle.std_types.specs.declared.register_value.RegisterValue.{RegisterValue}
use Rattle.std_types.specs.declared.registers.Limits.{Limits}

-- `plan 1` and `plan 2`: there is no other version
abbrev pub said_of_version : List ℕ → Said
said_of_version word = if bytes_eq word (codes "1") then said.Version version.One
    else (if bytes_eq word (codes "2") then said.Version version.Two else said.NoForm)

-- `node N`
abbrev pub said_of_node : Number → Said
said_of_node number.NoNumber = said.NoForm
said_of_node number.Outside = said.Outside
said_of_node (number.Within n) = said.Node n

-- `timeout N`
abbrev pub said_of_timeout : Number → Said
said_of_timeout number.NoNumber = said.NoForm
said_of_timeout number.Outside = said.Outside
said_of_timeout (number.Within n) = said.Timeout n

-- `clients N`
abbrev pub said_of_clients : Number → Said
said_of_clients number.NoNumber = said.NoForm
said_of_clients number.Outside = said.Outside
said_of_clients (number.Within n) = said.Clients n

-- `queue N`
abbrev pub said_of_queue : Number → Said
said_of_queue number.NoNumber = said.NoForm
said_of_queue number.Outside = said.Outside
said_of_queue (number.Within n) = said.Queue n

-- `mtu N`
abbrev pub said_of_mtu : Number → Said
said_of_mtu number.NoNumber = said.NoForm
said_of_mtu number.Outside = said.Outside
said_of_mtu (number.Within n) = said.Mtu n

-- `rate N`
abbrev pub said_of_rate : Number → Said
said_of_rate number.NoNumber = said.NoForm
said_of_rate number.Outside = said.Outside
said_of_rate (number.Within n) = said.Rate n

-- `status HEALTH MODE CODE`
abbrev pub said_of_status : Number → Number → Number → Said
said_of_status number.NoNumber mode code = said.NoForm
said_of_status health number.NoNumber code = said.NoForm
said_of_status health mode number.NoNumber = said.NoForm
said_of_status (number.Within h) (number.Within m) (number.Within c) =
    said.Status (record { health = h; mode = m; code = c })
said_of_status health mode code = said.Outside

-- a bus with a name
abbrev pub said_of_name : List ℕ → ℕ → ℕ → Said
said_of_name name mtu rate =
    if is_bus_name name then said.Bus (record { name = name; mtu = mtu; rate = rate })
    else said.Outside

-- `bus NAME MTU RATE`
abbrev pub said_of_numbers : List ℕ → Number → Number → Said
said_of_numbers name number.NoNumber rate = said.NoForm
said_of_numbers name mtu number.NoNumber = said.NoForm
said_of_numbers name (number.Within m) (number.Within r) = said_of_name name m r
said_of_numbers name mtu rate = said.Outside

-- an empty word is no name
abbrev pub said_of_bus : List ℕ → Number → Number → Said
said_of_bus name mtu rate = if length name == 0 then said.NoForm else said_of_numbers name mtu rate

-- a subject, sources and what a type stands for, if any; no extent is above 65,536 bytes
abbrev pub said_of_shape : ℕ → ℕ → Option SubShape → Said
said_of_shape port sources None = said.UnknownType port
said_of_shape port sources (Some type) = if nat_lt 65_536 (extent_of type) then said.LongType port
    else said.Sub (record { port = port; sources = sources; shape = type })

-- `sub PORT SOURCES TYPE`
abbrev pub said_of_sub : Number → Number → Option SubShape → Said
said_of_sub number.NoNumber sources type = said.NoForm
said_of_sub port number.NoNumber type = said.NoForm
said_of_sub (number.Within p) (number.Within s) type = said_of_shape p s type
said_of_sub port sources type = said.Outside

-- a subscription to a type, whose name is not empty
abbrev pub said_of_type : Namespace → List ℕ → List ℕ → List ℕ → Said
said_of_type names port sources name = if length name == 0 then said.NoForm
    else said_of_sub (number_in 0 8191 port) (number_in 1 128 sources) (shape_named names name)

-- `sub PORT SOURCES raw N`
abbrev pub said_of_raw : Number → Number → Number → Said
said_of_raw number.NoNumber sources extent = said.NoForm
said_of_raw port number.NoNumber extent = said.NoForm
said_of_raw port sources number.NoNumber = said.NoForm
said_of_raw (number.Within p) (number.Within s) (number.Within n) =
    said.Sub (record { port = p; sources = s; shape = shape.Raw n })
said_of_raw port sources extent = said.Outside

-- `silent`
abbrev pub said_of_one : List ℕ → Said
said_of_one word = if bytes_eq word (codes "silent") then said.Silent else said.NoForm

-- `bus`, `mtu` and `rate` of version 1, where the last two count for all buses
abbrev pub said_of_all : List ℕ → List ℕ → Said
said_of_all word value =
    if bytes_eq word (codes "bus") then said_of_bus value (number.Within 8) (number.Within 4096)
    else (if bytes_eq word (codes "mtu") then said_of_mtu (mtu_in value)
    else (if bytes_eq word (codes "rate") then said_of_rate (number_in 1 4096 value)
    else said.NoForm))

-- limits of a register with a name: the least number isn't above the greatest
abbrev pub said_of_between : List ℕ → Limits → Said
said_of_between name limits = if int_le limits.low limits.high && is_register_name name
    then said.Limits name limits else said.Outside

-- the numbers of limits
abbrev pub said_of_wholes : List ℕ → Whole → Whole → Said
said_of_wholes name whole.NoNumber high = said.NoForm
said_of_wholes name low whole.NoNumber = said.NoForm
said_of_wholes name (whole.Within l) (whole.Within h) =
    said_of_between name (record { low = l; high = h })
said_of_wholes name low high = said.Outside

-- `limits NAME LOW HIGH`; an empty word is no name
abbrev pub said_of_limits : List ℕ → Whole → Whole → Said
said_of_limits name low high =
    if length name == 0 then said.NoForm else said_of_wholes name low high

-- `serve PATH`; an empty word is no path, and none that isn't UTF-8
abbrev pub said_of_serve : List ℕ → Said
said_of_serve path =
    if length path == 0 || not (is_utf8 path) then said.NoForm else said.Serve path

-- a word and the number or the name that it sets
abbrev pub said_of_value : Bool → List ℕ → List ℕ → Said
said_of_value two word value =
    if bytes_eq word (codes "plan") then said_of_version value
    else (if bytes_eq word (codes "node") then said_of_node (number_in 0 127 value)
    else (if bytes_eq word (codes "timeout") then said_of_timeout (number_in 1 60_000_000 value)
    else (if bytes_eq word (codes "clients") then said_of_clients (number_in 1 128 value)
    else (if bytes_eq word (codes "queue") then said_of_queue (number_in 1 4096 value)
    else (if two then said.NoForm else said_of_all word value)))))

-- a word and what it sets
abbrev pub said_of_two : Bool → List ℕ → List ℕ → Said
said_of_two two word value = if bytes_eq word (codes "serve") then said_of_serve value
    else said_of_value two word value

-- a subscription to a type, a status, and a bus and limits of version 2
abbrev pub said_of_four : Namespace → Bool → List ℕ → List ℕ → List ℕ → List ℕ → Said
said_of_four names two word a b c =
    if bytes_eq word (codes "sub") then said_of_type names a b c
    else (if bytes_eq word (codes "status")
    then said_of_status (number_in 0 3 a) (number_in 0 3 b) (number_in 0 255 c)
    else (if two && bytes_eq word (codes "bus")
    then said_of_bus a (mtu_in b) (number_in 1 4096 c)
    else (if two && bytes_eq word (codes "limits")
    then said_of_limits a (whole_in b) (whole_in c)
    else said.NoForm)))

-- a subscription to bytes
abbrev pub said_of_five : List ℕ → List ℕ → List ℕ → List ℕ → List ℕ → Said
said_of_five word port sources raw extent =
    if bytes_eq word (codes "sub")
    then (if bytes_eq raw (codes "raw")
    then said_of_raw (number_in 0 8191 port) (number_in 1 128 sources) (number_in 0 65_536 extent)
    else said.NoForm)
    else said.NoForm

-- what a node is
abbrev pub said_of_many : List ℕ → List ℕ → List ℕ → List ℕ → List ℕ → List ℕ → Said
said_of_many word hardware software revision unique_id name =
    if bytes_eq word (codes "info")
    then said_of_info (version_in hardware) (version_in software) revision unique_id name
    else said.NoForm

-- no line has three words; the name of a node is all that stands behind the fifth
abbrev pub said_of_words : Namespace → Bool → List (List ℕ) → Said
said_of_words names two (a ∷ []) = said_of_one a
said_of_words names two (a ∷ b ∷ []) = said_of_two two a b
said_of_words names two (a ∷ b ∷ c ∷ d ∷ []) = said_of_four names two a b c d
said_of_words names two (a ∷ b ∷ c ∷ d ∷ e ∷ []) = said_of_five a b c d e
said_of_words names two (a ∷ b ∷ c ∷ d ∷ e ∷ f ∷ more) =
    said_of_many a b c d e (joined 32 (f ∷ more))
said_of_words names two words = said.NoForm

-- a line that says no register, of version 2 or not; an empty line says nothing, and none that
-- begins with `#`
abbrev pub said_of : Namespace → Bool → List ℕ → Said
said_of names two [] = said.Nothing
said_of names two (b ∷ s) = if b == 35 then said.Nothing
    else said_of_words names two (words_of (b ∷ s))

-- the words behind `register`; the text of the value is all that stands behind the others
pub record RegisterText : Type 0 where
  pub name : List ℕ
  pub access : List ℕ
  pub text : List ℕ

-- a register's line has four words or more
abbrev pub register_in : List (List ℕ) → Option RegisterText
register_in (word ∷ name ∷ access ∷ first ∷ more) = if bytes_eq word (codes "register")
    then Some (record { name = name; access = access; text = joined 32 (first ∷ more) }) else None
register_in words = None

-- `rw` and `ro`: whether others can write the register
abbrev pub access_in : List ℕ → Option Bool
access_in word = if bytes_eq word (codes "rw") then Some true
    else (if bytes_eq word (codes "ro") then Some false else None)

-- a register with a name and an access, where the text is that of this value, if any
abbrev pub said_of_named : Bool → List ℕ → Bool → Option RegisterValue → Said
said_of_named is_name name mutable None = said.Outside
said_of_named false name mutable value = said.Outside
said_of_named true name mutable (Some value) =
    said.Register (record { name = name; mutable = mutable; value = value; limits = None })

-- an access, if any
abbrev pub said_of_access : Option Bool → List ℕ → Option RegisterValue → Said
said_of_access None name value = said.NoForm
said_of_access (Some mutable) name value = said_of_named (is_register_name name) name mutable value

-- `register NAME rw VALUE` or `ro`, where VALUE is the text of this value, if any; no word is empty
abbrev pub said_of_register : List ℕ → List ℕ → List ℕ → Option RegisterValue → Said
said_of_register name access text value = if length name == 0 || length text == 0 then said.NoForm
    else said_of_access (access_in access) name value

-- what a register's line says: there is a value of which VALUE is the text, or there is none
abbrev pub SaysRegister : RegisterText → Said → Type 0
SaysRegister words said = (value : Option RegisterValue) × Reads words.text value
    × (said ≡ said_of_register words.name words.access words.text value)

-- what a line says, by the words of a register, if any, and what it says otherwise
abbrev pub SaysEither : Option RegisterText → Said → Said → Type 0
SaysEither None plain said = said ≡ plain
SaysEither (Some words) plain said = SaysRegister words said

-- what a line says, of version 2 or not
abbrev pub Says : Namespace → Bool → List ℕ → Said → Type 0
Says names two line = SaysEither (register_in (words_of line)) (said_of names two line)

-- what is said lies in its ranges
abbrev pub IsSaid : Said → Type 0
IsSaid (said.Node n) = n < 128
IsSaid (said.Bus bus) = IsBus bus
IsSaid (said.Mtu n) = IsMtu n
IsSaid (said.Rate n) = IsRate n
IsSaid (said.Timeout t) = (1 ≤ t) × (t ≤ 60_000_000)
IsSaid (said.Sub s) = IsSub s
IsSaid (said.Clients n) = (1 ≤ n) × (n ≤ 128)
IsSaid (said.Status status) = IsStatus status
IsSaid (said.Info info) = IsInfo info
IsSaid (said.Queue n) = (1 ≤ n) × (n ≤ 4096)
IsSaid (said.Register r) = IsRegister r
IsSaid (said.Serve path) = IsFolderPath path
IsSaid other = Unit {0}
