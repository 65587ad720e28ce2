-- Lemmas on the ports of a plan.
use Rattle.std.proofs.Common.{◌≡◌, ◌∙◌, ◌≢◌, ◌+◌, ◌<◌, ◌≤◌, ◌==◌, ◌&&◌, suc, ℕ, Bool, true, false, List, [], ◌∷◌, ◌++◌, Option, Some, None, refl, sym, ap, arith, get_or}
use Rattle.std.specs.Prelude.{◌||◌, IfSome, is_some, map, not, sum_by, if◌then◌else◌}
use Rattle.std.specs.Option.{option_map}
use Rattle.std.proofs.lemmas.Bool.Decides.{nat_tests}
use Rattle.std.specs.List.{All, AllPairs}
use Rattle.std.proofs.lemmas.List.Elements.{All-append, All-cons, All-map, All-nil}
use Rattle.std.proofs.lemmas.List.Kept.{AllPairs-cons}
use Rattle.std.proofs.lemmas.List.Sums.{sum_by-append, sum_by-cons}
use Rattle.dsdl_types.specs.Schemas.{is_composite}
use Rattle.dsdl_types.specs.Rules.{IsSchema}
use Rattle.std_types.specs.Types.{schema_of}
use Rattle.std_types.specs.declared.std_name.StdName.{StdName}
use Rattle.std_types.specs.declared.std_name.StdName.TheVariants as N
use Rattle.std_types.specs.declared.registers.Register.{Register}
use Rattle.std_types.proofs.SchemaRules.{schema_composite, schema_rules}
use Rattle.node_plan.specs.declared.plan.Plan.{Plan}
use Rattle.node_plan.specs.declared.plan.Sub.{Sub}
use Rattle.node_plan.specs.declared.plan.SubShape.{SubShape}
use Rattle.node_plan.specs.declared.plan.SubShape.TheVariants as shape
use Rattle.node_plan.specs.declared.services.Service.{Service}
use Rattle.node_plan.specs.Bound.{port_bound, service_bound, sub_bound, bound_of}
use Rattle.node_plan.specs.IsPlan.{IsPlan, IsShape, IsSub}
use Rattle.node_plan.specs.Ports.{Differ, IsPort, IsRequest, IsService, bytes_of, file_services, port_of_service, port_of_sub, ports, register_services, service, service_extent, services, status_services, type_in}

-- the extents of the requests
pub info_extent : bytes_of N.NodeInfoRequest ≡ 0
unfolding schema_of
info_extent = refl

pub access_extent : bytes_of N.AccessRequest ≡ 515
unfolding schema_of
access_extent = refl

pub list_extent : bytes_of N.ListRequest ≡ 2
unfolding schema_of
list_extent = refl

pub file_info_extent : bytes_of N.InfoRequest ≡ 300
unfolding schema_of
file_info_extent = refl

pub file_list_extent : bytes_of N.FileListRequest ≡ 300
unfolding schema_of
file_list_extent = refl

pub file_read_extent : bytes_of N.ReadRequest ≡ 300
unfolding schema_of
file_read_extent = refl

same_low : (n m : ℕ) → n ≡ m → m ≤ 515 → n ≤ 515
same_low n m e h = omega (arith, e, h)

-- no request has more bytes than those for a register
pub service_extent-low : (s : Service) → IsService s → service_extent s ≤ 515
service_extent-low s h = of_request s.request h.request
  where
    of_request : (o : Option StdName) → IsRequest o → service_extent (record s { request = o }) ≤ 515
    of_request None k = omega arith
    of_request (Some N.NodeInfoRequest) k = same_low (bytes_of N.NodeInfoRequest) 0 info_extent (omega arith)
    of_request (Some N.AccessRequest) k = same_low (bytes_of N.AccessRequest) 515 access_extent (omega arith)
    of_request (Some N.ListRequest) k = same_low (bytes_of N.ListRequest) 2 list_extent (omega arith)
    of_request (Some N.InfoRequest) k = same_low (bytes_of N.InfoRequest) 300 file_info_extent (omega arith)
    of_request (Some N.FileListRequest) k = same_low (bytes_of N.FileListRequest) 300 file_list_extent (omega arith)
    of_request (Some N.ReadRequest) k = same_low (bytes_of N.ReadRequest) 300 file_read_extent (omega arith)
    of_request (Some other) k = absurd k

-- the services of a plan that is silent or not, and that has a folder to serve or not
abbrev status_of : Plan → Bool → List Service
status_of plan t = if t then [] else service plan 430 (Some N.NodeInfoRequest) ∷ []

abbrev files_of : Plan → Bool → List Service
files_of plan t = if t then service plan 405 (Some N.InfoRequest) ∷ service plan 406 (Some N.FileListRequest) ∷ service plan 407 None ∷ service plan 408 (Some N.ReadRequest) ∷ service plan 409 None ∷ [] else []

-- the services that a node answers are in their ranges
service_fits : (plan : Plan) → IsPlan plan → (port : ℕ) (request : Option StdName) → port < 512 → IsRequest request → IsService (service plan port request)
service_fits plan h port request low k = record { port = low; some_source = h.some_client; few_sources = h.few_clients; request = k }

status_fit : (plan : Plan) → IsPlan plan → All IsService (status_services plan)
status_fit plan h = of_silent plan.silent
  where
    of_silent : (t : Bool) → All IsService (if t then [] else service plan 430 (Some N.NodeInfoRequest) ∷ [])
    of_silent true = All-nil IsService
    of_silent false = All-cons IsService (service plan 430 (Some N.NodeInfoRequest)) [] (service_fits plan h 430 (Some N.NodeInfoRequest) (omega arith) tt) (All-nil IsService)

registers_fit : (plan : Plan) → IsPlan plan → All IsService (register_services plan)
registers_fit plan h = of_registers plan.registers
  where
    of_registers : (rs : List Register) → All IsService (register_services (record plan { registers = rs }))
    of_registers [] = All-nil IsService
    of_registers (r ∷ rs) =
        let access = service plan 384 (Some N.AccessRequest) in
        let names = service plan 385 (Some N.ListRequest) in
        All-cons IsService access (names ∷ []) (service_fits plan h 384 (Some N.AccessRequest) (omega arith) tt)
        (All-cons IsService names [] (service_fits plan h 385 (Some N.ListRequest) (omega arith) tt) (All-nil IsService))

files_fit : (plan : Plan) → IsPlan plan → All IsService (file_services plan)
files_fit plan h = of_serve (is_some plan.serve)
  where
    of_serve : (t : Bool) → All IsService (files_of plan t)
    of_serve false = All-nil IsService
    of_serve true =
        let info = service plan 405 (Some N.InfoRequest) in
        let names = service plan 406 (Some N.FileListRequest) in
        let modify = service plan 407 None in
        let reads = service plan 408 (Some N.ReadRequest) in
        let writes = service plan 409 None in
        All-cons IsService info (names ∷ modify ∷ reads ∷ writes ∷ []) (service_fits plan h 405 (Some N.InfoRequest) (omega arith) tt)
        (All-cons IsService names (modify ∷ reads ∷ writes ∷ []) (service_fits plan h 406 (Some N.FileListRequest) (omega arith) tt)
        (All-cons IsService modify (reads ∷ writes ∷ []) (service_fits plan h 407 None (omega arith) tt)
        (All-cons IsService reads (writes ∷ []) (service_fits plan h 408 (Some N.ReadRequest) (omega arith) tt)
        (All-cons IsService writes [] (service_fits plan h 409 None (omega arith) tt) (All-nil IsService)))))

pub services_fit : (plan : Plan) → IsPlan plan → All IsService (services plan)
services_fit plan h = All-append IsService (status_services plan ++ register_services plan) (file_services plan)
    (All-append IsService (status_services plan) (register_services plan) (status_fit plan h) (registers_fit plan h)) (files_fit plan h)

-- a sum over what is made of each
sum_by-map : {X Y : Type 0} (f : Y → ℕ) (g : X → Y) (xs : List X) → sum_by f (map g xs) ≡ sum_by (λ x. f (g x)) xs
sum_by-map f g [] = refl
sum_by-map f g (x ∷ xs) = sum_by-cons f (g x) (map g xs) ∙ ap (λ n. f (g x) + n) (sum_by-map f g xs) ∙ sym (sum_by-cons (λ x. f (g x)) x xs)

pub bound_of-parts : (plan : Plan) → sum_by sub_bound plan.subs + sum_by service_bound (services plan) ≡ bound_of plan
bound_of-parts plan = sym (sum_by-append port_bound (map port_of_sub plan.subs) (map port_of_service (services plan))
    ∙ ap (λ n. n + sum_by port_bound (map port_of_service (services plan))) (sum_by-map port_bound port_of_sub plan.subs)
    ∙ ap (λ n. sum_by sub_bound plan.subs + n) (sum_by-map port_bound port_of_service (services plan)))

-- ---- the ports are in their ranges

of_type : (s : SubShape) → IsShape s → IfSome (type_in s) (λ s. IsSchema s × (is_composite s ≡ true))
of_type (shape.Raw n) h = tt
of_type (shape.Named id s) h = h

of_sub : (s : Sub) → IsSub s → IsPort (port_of_sub s)
of_sub s h = record {
  port = omega (arith, h.port);
  some_source = h.some_source;
  few_sources = h.few_sources;
  extent = h.extent;
  type = of_type s.shape h.shape;
}

of_service : (s : Service) → IsService s → IsPort (port_of_service s)
of_service s h = record {
  port = omega (arith, h.port);
  some_source = h.some_source;
  few_sources = h.few_sources;
  extent = let e = service_extent-low s h in omega arith;
  type = of_request s.request;
}
  where
    of_request : (o : Option StdName) → IfSome (option_map schema_of o) (λ s. IsSchema s × (is_composite s ≡ true))
    of_request None = tt
    of_request (Some name) = (schema_rules name, schema_composite name)

all_of : {X Y : Type 0} (P : X → Type 0) (Q : Y → Type 0) (f : X → Y) → ((x : X) → P x → Q (f x)) → (xs : List X) → All P xs → All Q (map f xs)
all_of P Q f step xs h = All-map Q f xs (λ k x less. step (get_or xs k x) (h k x less))

pub ports_fit : (plan : Plan) → IsPlan plan → All IsPort (ports plan)
ports_fit plan h = All-append IsPort (map port_of_sub plan.subs) (map port_of_service (services plan))
    (all_of IsSub IsPort port_of_sub of_sub plan.subs h.subs)
    (all_of IsService IsPort port_of_service of_service (services plan) (services_fit plan h))

-- ---- the ports differ

sub_service : (s : Sub) (t : Service) → Differ (port_of_sub s) (port_of_service t)
sub_service s t = λ e. absurd cc

all_services : (s : Sub) (ts : List Service) → All (Differ (port_of_sub s)) (map port_of_service ts)
all_services s [] = All-nil (Differ (port_of_sub s))
all_services s (t ∷ ts) = All-cons (Differ (port_of_sub s)) (port_of_service t) (map port_of_service ts) (sub_service s t) (all_services s ts)

all_subs : (s : Sub) (ts : List Sub) → All (λ t. s.port ≢ t.port) ts → All (Differ (port_of_sub s)) (map port_of_sub ts)
all_subs s ts h = All-map (Differ (port_of_sub s)) port_of_sub ts (λ k t less e. h k t less)

-- whether no number is that of a service before, by a test
abbrev has_port : ℕ → List Service → Bool
has_port n [] = false
has_port n (s ∷ ss) = (n == s.port) || has_port n ss

abbrev distinct_ports : List Service → Bool
distinct_ports [] = true
distinct_ports (s ∷ ss) = not (has_port s.port ss) && distinct_ports ss

-- no two services have one number
abbrev Below : Service → Service → Type 0
Below a b = a.port ≢ b.port

other_port : (n : ℕ) (ss : List Service) → has_port n ss ≡ false → All (λ t. n ≢ t.port) ss
other_port n [] h = All-nil (λ (t : Service). n ≢ t.port)
other_port n (s ∷ ss) h = of_test (n == s.port) refl h (λ rest. other_port n ss rest)
  where
    of_test : (t : Bool) → (n == s.port) ≡ t → (t || has_port n ss) ≡ false → (has_port n ss ≡ false → All (λ t. n ≢ t.port) ss) → All (λ t. n ≢ t.port) (s ∷ ss)
    of_test true e h others = absurd cc
    of_test false e h others = All-cons (λ (t : Service). n ≢ t.port) s ss (λ same. grind (arith, nat_tests)) (others h)

apart_of : (ss : List Service) → distinct_ports ss ≡ true → AllPairs Below ss
apart_of [] h = λ i j d less low. absurd (omega arith)
apart_of (s ∷ ss) h = of_test (has_port s.port ss) refl h (λ rest. apart_of ss rest)
  where
    of_test : (t : Bool) → has_port s.port ss ≡ t → (not t && distinct_ports ss) ≡ true → (distinct_ports ss ≡ true → AllPairs Below ss) → AllPairs Below (s ∷ ss)
    of_test true e h others = absurd cc
    of_test false e h others = AllPairs-cons Below s ss (other_port s.port ss e) (others h)

services_apart : (plan : Plan) → AllPairs Below (services plan)
services_apart plan = of_tests plan.silent plan.registers (is_some plan.serve)
  where
    of_tests : (t : Bool) (rs : List Register) (u : Bool) → AllPairs Below (status_of plan t ++ register_services (record plan { registers = rs }) ++ files_of plan u)
    of_tests true [] true = apart_of (files_of plan true) refl
    of_tests true [] false = apart_of [] refl
    of_tests true (r ∷ rs) true = apart_of (register_services (record plan { registers = r ∷ rs }) ++ files_of plan true) refl
    of_tests true (r ∷ rs) false = apart_of (register_services (record plan { registers = r ∷ rs })) refl
    of_tests false [] true = apart_of (status_of plan false ++ files_of plan true) refl
    of_tests false [] false = apart_of (status_of plan false) refl
    of_tests false (r ∷ rs) true = apart_of (status_of plan false ++ register_services (record plan { registers = r ∷ rs }) ++ files_of plan true) refl
    of_tests false (r ∷ rs) false = apart_of (status_of plan false ++ register_services (record plan { registers = r ∷ rs })) refl

port_services_apart : (ss : List Service) → AllPairs Below ss → AllPairs Differ (map port_of_service ss)
port_services_apart [] h = λ i j d less low. absurd (omega arith)
port_services_apart (s ∷ ss) h = AllPairs-cons Differ (port_of_service s) (map port_of_service ss)
    (All-map (Differ (port_of_service s)) port_of_service ss (λ k t less e. h 0 (suc k) t (omega arith) (omega arith)))
    (port_services_apart ss (λ i j t less low. h (suc i) (suc j) t (omega arith) (omega arith)))

services_differ : (plan : Plan) → AllPairs Differ (map port_of_service (services plan))
services_differ plan = port_services_apart (services plan) (services_apart plan)

pub ports_differ : (plan : Plan) → IsPlan plan → AllPairs Differ (ports plan)
ports_differ plan h = of_subs plan.subs h.subjects
  where
    of_subs : (subs : List Sub) → AllPairs (λ a b. a.port ≢ b.port) subs → AllPairs Differ (map port_of_sub subs ++ map port_of_service (services plan))
    of_subs [] h = services_differ plan
    of_subs (s ∷ subs) h =
        AllPairs-cons Differ (port_of_sub s) (map port_of_sub subs ++ map port_of_service (services plan))
        (All-append (Differ (port_of_sub s)) (map port_of_sub subs) (map port_of_service (services plan))
        (all_subs s subs (λ k t less. h 0 (suc k) t (omega arith) (omega arith))) (all_services s (services plan)))
        (of_subs subs (λ i j t less low. h (suc i) (suc j) t (omega arith) (omega arith)))
