-- What holds of all that a line may say, by what it says.
use Rattle.std.proofs.Common.{◌==◌, ◌&&◌, ℕ, Bool, true, false, List, Option, Some, None, length}
use Rattle.std.specs.Prelude.{◌||◌, IfSome, codes, if◌then◌else◌, int_le, nat_lt, not}
use Rattle.std.specs.Str.{bytes_eq, is_utf8}
use Rattle.std.proofs.lemmas.Bool.{cond_both}
use Rattle.dsdl_types.specs.declared.namespace.Namespace.{Namespace}
use Rattle.std_types.specs.declared.node.NodeInfo.{NodeInfo}
use Rattle.std_types.specs.declared.node.Version.{Version}
use Rattle.node_plan.specs.declared.info.VersionWord.{VersionWord}
use Rattle.node_plan.specs.declared.info.VersionWord.TheVariants as word
use Rattle.node_plan.specs.declared.line.Said.{Said}
use Rattle.node_plan.specs.declared.line.Said.TheVariants as said
use Rattle.node_plan.specs.declared.plan.BusPlan.{BusPlan}
use Rattle.node_plan.specs.declared.plan.NodeStatus.{NodeStatus}
use Rattle.node_plan.specs.declared.plan.Sub.{Sub}
use Rattle.node_plan.specs.declared.plan.SubShape.{SubShape}
use Rattle.node_plan.specs.declared.plan.SubShape.TheVariants as shape
use Rattle.node_plan.specs.declared.words.Number.{Number}
use Rattle.node_plan.specs.declared.words.Number.TheVariants as number
use Rattle.node_plan.specs.declared.words.Whole.{Whole}
use Rattle.node_plan.specs.declared.words.Whole.TheVariants as whole
use Rattle.std_types.specs.declared.register_value.RegisterValue.{RegisterValue}
use Rattle.std_types.specs.declared.registers.Limits.{Limits}
use Rattle.std_types.specs.declared.registers.Register.{Register}
use Rattle.node_plan.specs.Registers.{is_register_name}
use Rattle.node_plan.specs.Info.{info_with, is_node_name, revision_in, said_of_info, said_of_parts, said_of_version_words, unique_id_in, version_in}
use Rattle.node_plan.specs.Line.{said_of_node, said_of_name, said_of_numbers, said_of_bus, said_of_mtu, said_of_rate, said_of_timeout, said_of_clients, said_of_queue, said_of_status, said_of_shape, said_of_sub, said_of_type, said_of_raw, said_of_one, said_of_all, said_of_four, said_of_five, said_of_many, access_in, said_of_access, said_of_between, said_of_limits, said_of_named, said_of_register, said_of_serve, said_of_wholes}
use Rattle.node_plan.specs.Names.{is_bus_name}
use Rattle.node_plan.specs.Ports.{extent_of}
use Rattle.node_plan.specs.Types.{shape_named}
use Rattle.node_plan.specs.Words.{mtu_in, number_in, whole_in}

-- a fact on what is said that holds of all but versions, nothing and buses; of a subscription where S holds of its shape
pub record Holds (P : Said → Type 0) (S : SubShape → Type 0) : Type 0 where
  pub no_form : P said.NoForm
  pub outside : P said.Outside
  pub node : (n : ℕ) → P (said.Node n)
  pub timeout : (n : ℕ) → P (said.Timeout n)
  pub silent : P said.Silent
  pub raw : (port sources extent : ℕ) → P (said.Sub (record { port = port; sources = sources; shape = shape.Raw extent }))
  pub sub : (s : Sub) → S s.shape → P (said.Sub s)
  pub unknown_type : (port : ℕ) → P (said.UnknownType port)
  pub long_type : (port : ℕ) → P (said.LongType port)
  pub clients : (n : ℕ) → P (said.Clients n)
  pub status : (s : NodeStatus) → P (said.Status s)
  pub info : (i : NodeInfo) → P (said.Info i)
  pub queue : (n : ℕ) → P (said.Queue n)
  pub register : (r : Register) → P (said.Register r)
  pub serve : (path : List ℕ) → P (said.Serve path)

-- and of buses
pub record HoldsOfBuses (P : Said → Type 0) : Type 0 where
  pub bus : (b : BusPlan) → P (said.Bus b)
  pub mtu : (n : ℕ) → P (said.Mtu n)
  pub rate : (n : ℕ) → P (said.Rate n)

module _ (P : Said → Type 0) (S : SubShape → Type 0) (h : Holds P S) where
  -- a choice between two
  pub both : (b : Bool) (x y : Said) → P x → P y → P (if b then x else y)
  both b x y p q = cond_both b x y P (λ _. p) (λ _. q)

  pub of_node : (n : Number) → P (said_of_node n)
  of_node number.NoNumber = h.no_form
  of_node number.Outside = h.outside
  of_node (number.Within n) = h.node n

  pub of_timeout : (n : Number) → P (said_of_timeout n)
  of_timeout number.NoNumber = h.no_form
  of_timeout number.Outside = h.outside
  of_timeout (number.Within n) = h.timeout n

  pub of_clients : (n : Number) → P (said_of_clients n)
  of_clients number.NoNumber = h.no_form
  of_clients number.Outside = h.outside
  of_clients (number.Within n) = h.clients n

  pub of_queue : (n : Number) → P (said_of_queue n)
  of_queue number.NoNumber = h.no_form
  of_queue number.Outside = h.outside
  of_queue (number.Within n) = h.queue n

  of_status : (health mode code : Number) → P (said_of_status health mode code)
  of_status number.NoNumber mode code = h.no_form
  of_status health number.NoNumber code = h.no_form
  of_status health mode number.NoNumber = h.no_form
  of_status (number.Within x) (number.Within m) (number.Within c) = h.status (record { health = x; mode = m; code = c })
  of_status health mode code = h.outside

  of_shape : (port sources : ℕ) (type : Option SubShape) → IfSome type S → P (said_of_shape port sources type)
  of_shape port sources None s = h.unknown_type port
  of_shape port sources (Some type) s =
      let sub : Sub = record { port = port; sources = sources; shape = type } in
      both (nat_lt 65_536 (extent_of type)) (said.LongType port) (said.Sub sub) (h.long_type port) (h.sub sub s)

  of_sub : (port sources : Number) (type : Option SubShape) → IfSome type S → P (said_of_sub port sources type)
  of_sub number.NoNumber sources type s = h.no_form
  of_sub port number.NoNumber type s = h.no_form
  of_sub (number.Within p) (number.Within n) type s = of_shape p n type s
  of_sub port sources type s = h.outside

  of_type : (names : Namespace) (port sources name : List ℕ) → IfSome (shape_named names name) S → P (said_of_type names port sources name)
  of_type names port sources name s =
      let says = said_of_sub (number_in 0 8191 port) (number_in 1 128 sources) (shape_named names name) in
      both (length name == 0) said.NoForm says h.no_form (of_sub (number_in 0 8191 port) (number_in 1 128 sources) (shape_named names name) s)

  of_raw : (port sources extent : Number) → P (said_of_raw port sources extent)
  of_raw number.NoNumber sources extent = h.no_form
  of_raw port number.NoNumber extent = h.no_form
  of_raw port sources number.NoNumber = h.no_form
  of_raw (number.Within p) (number.Within s) (number.Within n) = h.raw p s n
  of_raw port sources extent = h.outside

  pub of_one : (a : List ℕ) → P (said_of_one a)
  of_one a = both (bytes_eq a (codes "silent")) said.Silent said.NoForm h.silent h.no_form

  pub of_serve : (path : List ℕ) → P (said_of_serve path)
  of_serve path = both (length path == 0 || not (is_utf8 path)) said.NoForm (said.Serve path) h.no_form (h.serve path)

  of_named : (is_name : Bool) (name : List ℕ) (mutable : Bool) (value : Option RegisterValue) → P (said_of_named is_name name mutable value)
  of_named is_name name mutable None = h.outside
  of_named false name mutable (Some v) = h.outside
  of_named true name mutable (Some v) = h.register (record { name = name; mutable = mutable; value = v; limits = None })

  of_access : (access : Option Bool) (name : List ℕ) (value : Option RegisterValue) → P (said_of_access access name value)
  of_access None name value = h.no_form
  of_access (Some mutable) name value = of_named (is_register_name name) name mutable value

  pub of_register : (name access text : List ℕ) (value : Option RegisterValue) → P (said_of_register name access text value)
  of_register name access text value =
      both (length name == 0 || length text == 0) said.NoForm (said_of_access (access_in access) name value) h.no_form (of_access (access_in access) name value)

  -- where it holds of limits
  module _ (limited : (name : List ℕ) (limits : Limits) → P (said.Limits name limits)) where
    of_between : (name : List ℕ) (limits : Limits) → P (said_of_between name limits)
    of_between name limits = both (int_le limits.low limits.high && is_register_name name) (said.Limits name limits) said.Outside (limited name limits) h.outside

    of_wholes : (name : List ℕ) (low high : Whole) → P (said_of_wholes name low high)
    of_wholes name whole.NoNumber high = h.no_form
    of_wholes name low whole.NoNumber = h.no_form
    of_wholes name (whole.Within l) (whole.Within k) = of_between name (record { low = l; high = k })
    of_wholes name low high = h.outside

    pub of_limits : (name : List ℕ) (low high : Whole) → P (said_of_limits name low high)
    of_limits name low high = both (length name == 0) said.NoForm (said_of_wholes name low high) h.no_form (of_wholes name low high)

  -- where it holds of a bus and of limits of version 2
  pub of_four : (names : Namespace) (two : Bool) (word a b c : List ℕ) → IfSome (shape_named names c) S
      → P (if two && bytes_eq word (codes "bus") then said_of_bus a (mtu_in b) (number_in 1 4096 c)
      else (if two && bytes_eq word (codes "limits") then said_of_limits a (whole_in b) (whole_in c) else said.NoForm)) → P (said_of_four names two word a b c)
  of_four names two word a b c s bus =
      let status = said_of_status (number_in 0 3 a) (number_in 0 3 b) (number_in 0 255 c) in
      let is_status = bytes_eq word (codes "status") in
      let from_bus = if two && bytes_eq word (codes "bus") then said_of_bus a (mtu_in b) (number_in 1 4096 c)
      else (if two && bytes_eq word (codes "limits") then said_of_limits a (whole_in b) (whole_in c) else said.NoForm) in
      both (bytes_eq word (codes "sub")) (said_of_type names a b c) (if is_status then status else from_bus) (of_type names a b c s)
      (both is_status status from_bus (of_status (number_in 0 3 a) (number_in 0 3 b) (number_in 0 255 c)) bus)

  pub of_five : (word port sources raw extent : List ℕ) → P (said_of_five word port sources raw extent)
  of_five word port sources raw extent =
      let says = said_of_raw (number_in 0 8191 port) (number_in 1 128 sources) (number_in 0 65_536 extent) in
      let is_raw = bytes_eq raw (codes "raw") in
      both (bytes_eq word (codes "sub")) (if is_raw then says else said.NoForm) said.NoForm
      (both is_raw says said.NoForm (of_raw (number_in 0 8191 port) (number_in 1 128 sources) (number_in 0 65_536 extent)) h.no_form) h.no_form

  of_facts : (hardware software : Version) (revision : Option ℕ) (unique_id : Option (List ℕ)) (name : List ℕ) → P (said_of_parts hardware software revision unique_id name)
  of_facts hardware software None unique_id name = h.outside
  of_facts hardware software revision None name = h.outside
  of_facts hardware software (Some r) (Some u) name =
      let info = info_with hardware software r u name in
      both (is_node_name name) (said.Info info) said.Outside (h.info info) h.outside

  of_versions : (hardware software : VersionWord) (revision unique_id name : List ℕ) → P (said_of_version_words hardware software revision unique_id name)
  of_versions word.NoVersion software revision unique_id name = h.no_form
  of_versions hardware word.NoVersion revision unique_id name = h.no_form
  of_versions (word.Within v) (word.Within s) revision unique_id name = of_facts v s (revision_in revision) (unique_id_in unique_id) name
  of_versions hardware software revision unique_id name = h.outside

  of_info : (hardware software : VersionWord) (revision unique_id name : List ℕ) → P (said_of_info hardware software revision unique_id name)
  of_info hardware software revision unique_id name =
      both (length revision == 0 || length unique_id == 0 || length name == 0) said.NoForm (said_of_version_words hardware software revision unique_id name) h.no_form
      (of_versions hardware software revision unique_id name)

  pub of_many : (a b c d e f : List ℕ) → P (said_of_many a b c d e f)
  of_many a b c d e f =
      let says = said_of_info (version_in b) (version_in c) d e f in
      both (bytes_eq a (codes "info")) says said.NoForm (of_info (version_in b) (version_in c) d e f) h.no_form

  -- two words, of which the first isn't `plan`, before those that are of all buses
  pub of_value : (word value : List ℕ) (last : Said) → P last
      → P (if bytes_eq word (codes "node") then said_of_node (number_in 0 127 value)
      else (if bytes_eq word (codes "timeout") then said_of_timeout (number_in 1 60_000_000 value)
      else (if bytes_eq word (codes "clients") then said_of_clients (number_in 1 128 value)
      else (if bytes_eq word (codes "queue") then said_of_queue (number_in 1 4096 value) else last))))
  of_value word value last p =
      let queue = said_of_queue (number_in 1 4096 value) in
      let is_queue = bytes_eq word (codes "queue") in
      let from_queue = if is_queue then queue else last in
      let clients = said_of_clients (number_in 1 128 value) in
      let is_clients = bytes_eq word (codes "clients") in
      let from_clients = if is_clients then clients else from_queue in
      let timeout = said_of_timeout (number_in 1 60_000_000 value) in
      let is_timeout = bytes_eq word (codes "timeout") in
      both (bytes_eq word (codes "node")) (said_of_node (number_in 0 127 value)) (if is_timeout then timeout else from_clients) (of_node (number_in 0 127 value))
      (both is_timeout timeout from_clients (of_timeout (number_in 1 60_000_000 value))
      (both is_clients clients from_queue (of_clients (number_in 1 128 value))
      (both is_queue queue last (of_queue (number_in 1 4096 value)) p)))

  -- ---- lines that say something of buses

  module _ (buses : HoldsOfBuses P) where
    of_mtu : (n : Number) → P (said_of_mtu n)
    of_mtu number.NoNumber = h.no_form
    of_mtu number.Outside = h.outside
    of_mtu (number.Within n) = buses.mtu n

    of_rate : (n : Number) → P (said_of_rate n)
    of_rate number.NoNumber = h.no_form
    of_rate number.Outside = h.outside
    of_rate (number.Within n) = buses.rate n

    of_name : (name : List ℕ) (mtu rate : ℕ) → P (said_of_name name mtu rate)
    of_name name mtu rate =
        let bus : BusPlan = record { name = name; mtu = mtu; rate = rate } in
        both (is_bus_name name) (said.Bus bus) said.Outside (buses.bus bus) h.outside

    of_numbers : (name : List ℕ) (mtu rate : Number) → P (said_of_numbers name mtu rate)
    of_numbers name number.NoNumber rate = h.no_form
    of_numbers name mtu number.NoNumber = h.no_form
    of_numbers name (number.Within m) (number.Within r) = of_name name m r
    of_numbers name mtu rate = h.outside

    pub of_bus : (name : List ℕ) (mtu rate : Number) → P (said_of_bus name mtu rate)
    of_bus name mtu rate = both (length name == 0) said.NoForm (said_of_numbers name mtu rate) h.no_form (of_numbers name mtu rate)

    pub of_all : (word value : List ℕ) → P (said_of_all word value)
    of_all word value =
        let rate = said_of_rate (number_in 1 4096 value) in
        let is_rate = bytes_eq word (codes "rate") in
        let from_rate = if is_rate then rate else said.NoForm in
        let mtu = said_of_mtu (mtu_in value) in
        let is_mtu = bytes_eq word (codes "mtu") in
        both (bytes_eq word (codes "bus")) (said_of_bus value (number.Within 8) (number.Within 4096)) (if is_mtu then mtu else from_rate)
        (of_bus value (number.Within 8) (number.Within 4096))
        (both is_mtu mtu from_rate (of_mtu (mtu_in value)) (both is_rate rate said.NoForm (of_rate (number_in 1 4096 value)) h.no_form))
