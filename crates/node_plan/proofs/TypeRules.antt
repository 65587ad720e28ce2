-- The types of a plan's subscriptions keep the rules.
use Rattle.std.proofs.Common.{◌==◌, ◌&&◌, ◌+◌, ℕ, Bool, true, false, List, [], ◌∷◌, ◌++◌, Option, Some, None, length, take, subst, sym, ◌≡◌}
use Rattle.std.specs.Prelude.{IfOk, IfSome, Result, Ok, Err, codes, if◌then◌else◌, is_some, nat_le, nat_lt, slice_get}
use Rattle.std.specs.List.{All}
use Rattle.std.specs.Str.{bytes_eq}
use Rattle.std.proofs.lemmas.Bool.{cond_both}
use Rattle.std.proofs.lemmas.List.Elements.{All-nil, All-push}
use Rattle.dsdl_names.specs.Names.{type_id_of}
use Rattle.dsdl_names.specs.declared.TypeId.{TypeId}
use Rattle.dsdl_names.specs.declared.NameError.{NameError}
use Rattle.dsdl_types.specs.Definitions.{AreTypes, IsDefinition, IsNamespace}
use Rattle.dsdl_types.specs.Finding.{definition_of}
use Rattle.dsdl_types.specs.declared.definition.Definition.{Definition}
use Rattle.dsdl_types.specs.declared.definition.Parts.{Parts}
use Rattle.dsdl_types.specs.declared.definition.Parts.TheVariants as parts
use Rattle.dsdl_types.specs.declared.namespace.Namespace.{Namespace}
use Rattle.node_plan.specs.declared.draft.Draft.{Draft}
use Rattle.node_plan.specs.declared.line.PlanVersion.{PlanVersion}
use Rattle.node_plan.specs.declared.line.PlanVersion.TheVariants as version
use Rattle.node_plan.specs.declared.line.Said.{Said}
use Rattle.node_plan.specs.declared.line.Said.TheVariants as said
use Rattle.node_plan.specs.declared.plan.Plan.{Plan}
use Rattle.node_plan.specs.declared.plan.PlanWhy.{PlanWhy}
use Rattle.node_plan.specs.declared.plan.PlanWhy.TheVariants as why
use Rattle.node_plan.specs.declared.plan.Sub.{Sub}
use Rattle.node_plan.specs.Draft.{start, has_all, has_bus, has_register, has_subject, is_two, limited, limited_at, limits_at, once, place_of, plan_with, with_version, with_line, step, complete}
use Rattle.node_plan.specs.IsPlan.{IsShape}
use Rattle.node_plan.specs.Laws.{PlansKeepTypeRules}
use Rattle.node_plan.specs.Limit.{limit_of}
use Rattle.node_plan.specs.Line.{RegisterText, Says, SaysEither, register_in, said_of, said_of_limits, said_of_serve, said_of_value, said_of_version, said_of_bus, said_of_all, said_of_two, said_of_four, said_of_words}
use Rattle.node_plan.specs.Plan.{PlanIs, Good, Bad, Ends, Follows, Goes, Line, finished}
use Rattle.node_plan.specs.Registers.{can_limit}
use Rattle.std_types.specs.declared.registers.Register.{Register}
use Rattle.node_plan.specs.Types.{message_with, message_in, message_at}
use Rattle.node_plan.specs.Words.{joined, mtu_in, number_in, parts_of, whole_in, words_of}
use Rattle.node_plan.proofs.SaidTables as tables
use Rattle.node_plan.proofs.SaidTables.{Holds, HoldsOfBuses, both, of_all, of_bus, of_five, of_limits, of_many, of_one, of_register, of_serve, of_value}
use Rattle.node_plan.proofs.TypeLemmas.{definition_rules}

-- subscriptions whose types keep the rules
abbrev HaveRules : List Sub → Type 0
HaveRules subs = All (λ sub. IsShape sub.shape) subs

-- ---- what a line says

abbrev KeepsRules : Said → Type 0
KeepsRules (said.Sub s) = IsShape s.shape
KeepsRules other = Unit {0}

message_rules : (found : Option Definition) → IfSome found IsDefinition → IfSome (message_in found) IsShape
message_rules None h = tt
message_rules (Some d) h = of_parts d.id d.parts h.rules
  where
    of_parts : (id : TypeId) (p : Parts) → AreTypes p → IfSome (message_with id p) IsShape
    of_parts id (parts.Message s) r = r
    of_parts id (parts.Service a b) r = tt

shape_rules : (names : Namespace) → IsNamespace names → (id : Result TypeId NameError) → IfSome (message_at names id) IsShape
shape_rules names h (Ok id) = message_rules (definition_of names.definitions id) (definition_rules names.definitions id h)
shape_rules names h (Err e) = tt

keeps : Holds KeepsRules IsShape
keeps = record {
  no_form = tt;
  outside = tt;
  node = λ n. tt;
  timeout = λ n. tt;
  silent = tt;
  raw = λ p s n. tt;
  sub = λ s h. h;
  unknown_type = λ p. tt;
  long_type = λ p. tt;
  clients = λ n. tt;
  status = λ s. tt;
  info = λ i. tt;
  queue = λ n. tt;
  register = λ r. tt;
  serve = λ p. tt;
}

keeps_buses : HoldsOfBuses KeepsRules
keeps_buses = record { bus = λ b. tt; mtu = λ n. tt; rate = λ n. tt }

of_version : (word : List ℕ) → KeepsRules (said_of_version word)
of_version word = both KeepsRules IsShape keeps (bytes_eq word (codes "1")) (said.Version version.One) (if bytes_eq word (codes "2") then said.Version version.Two else said.NoForm) tt
    (both KeepsRules IsShape keeps (bytes_eq word (codes "2")) (said.Version version.Two) said.NoForm tt tt)

of_two : (two : Bool) (word value : List ℕ) → KeepsRules (said_of_two two word value)
of_two two word value =
    let last = if two then said.NoForm else said_of_all word value in
    both KeepsRules IsShape keeps (bytes_eq word (codes "serve")) (said_of_serve value) (said_of_value two word value) (of_serve KeepsRules IsShape keeps value)
    (both KeepsRules IsShape keeps (bytes_eq word (codes "plan")) (said_of_version value) _ (of_version value)
    (of_value KeepsRules IsShape keeps word value last
    (both KeepsRules IsShape keeps two said.NoForm (said_of_all word value) tt (of_all KeepsRules IsShape keeps keeps_buses word value))))

of_four : (names : Namespace) → IsNamespace names → (two : Bool) (word a b c : List ℕ) → KeepsRules (said_of_four names two word a b c)
of_four names h two word a b c =
    let bus = said_of_bus a (mtu_in b) (number_in 1 4096 c) in
    let limits = said_of_limits a (whole_in b) (whole_in c) in
    let is_limits = two && bytes_eq word (codes "limits") in
    tables.of_four KeepsRules IsShape keeps names two word a b c (shape_rules names h (type_id_of c))
    (both KeepsRules IsShape keeps (two && bytes_eq word (codes "bus")) bus (if is_limits then limits else said.NoForm) (of_bus KeepsRules IsShape keeps keeps_buses a (mtu_in b) (number_in 1 4096 c))
    (both KeepsRules IsShape keeps is_limits limits said.NoForm (of_limits KeepsRules IsShape keeps (λ name l. tt) a (whole_in b) (whole_in c)) tt))

of_words : (names : Namespace) → IsNamespace names → (two : Bool) (words : List (List ℕ)) → KeepsRules (said_of_words names two words)
of_words names h two [] = tt
of_words names h two (a ∷ []) = of_one KeepsRules IsShape keeps a
of_words names h two (a ∷ b ∷ []) = of_two two a b
of_words names h two (a ∷ b ∷ c ∷ []) = tt
of_words names h two (a ∷ b ∷ c ∷ d ∷ []) = of_four names h two a b c d
of_words names h two (a ∷ b ∷ c ∷ d ∷ e ∷ []) = of_five KeepsRules IsShape keeps a b c d e
of_words names h two (a ∷ b ∷ c ∷ d ∷ e ∷ f ∷ more) = of_many KeepsRules IsShape keeps a b c d e (joined 32 (f ∷ more))

of_line : (names : Namespace) → IsNamespace names → (two : Bool) (line : List ℕ) → KeepsRules (said_of names two line)
of_line names h two [] = tt
of_line names h two (b ∷ s) = both KeepsRules IsShape keeps (b == 35) said.Nothing (said_of_words names two (words_of (b ∷ s))) tt (of_words names h two (words_of (b ∷ s)))

of_either : (o : Option RegisterText) (p s : Said) → KeepsRules p → SaysEither o p s → KeepsRules s
of_either None p s h e = subst KeepsRules (sym e) h
of_either (Some w) p s h e = subst KeepsRules (sym e.2) (of_register KeepsRules IsShape keeps w.name w.access w.text e.0)

of_says : (names : Namespace) → IsNamespace names → (two : Bool) (line : List ℕ) (s : Said) → Says names two line s → KeepsRules s
of_says names h two line s w = of_either (register_in (words_of line)) (said_of names two line) s (of_line names h two line) w

-- ---- the plan so far

abbrev Stays : Result Draft PlanWhy → Type 0
Stays r = IfOk r (λ new. HaveRules new.subs)

either : (b : Bool) (x y : Result Draft PlanWhy) → Stays x → Stays y → Stays (if b then x else y)
either b x y p q = cond_both b x y Stays (λ _. p) (λ _. q)

of_once : (b : Bool) (new : Draft) → HaveRules new.subs → Stays (once b new)
of_once b new h = either b (Err why.Repeated) (Ok new) tt h

of_with_version : (d : Draft) (was : Option PlanVersion) (v : PlanVersion) → HaveRules d.subs → Stays (with_version d was v)
of_with_version d None v h = h
of_with_version d (Some version.One) version.One h = tt
of_with_version d (Some version.One) version.Two h = tt
of_with_version d (Some version.Two) version.One h = tt
of_with_version d (Some version.Two) version.Two h = tt

of_with_line : (d : Draft) (s : Said) → HaveRules d.subs → KeepsRules s → Stays (with_line d s)
of_with_line d said.NoForm h k = tt
of_with_line d said.Outside h k = tt
of_with_line d said.Nothing h k = tt
of_with_line d (said.Version v) h k = tt
of_with_line d (said.Node n) h k = of_once (is_some d.node) (record d { node = Some n }) h
of_with_line d (said.Bus bus) h k =
    let new = record d { buses = d.buses ++ bus ∷ [] } in
    either (nat_le 3 (length d.buses)) (Err why.Range) (once (has_bus bus.name d.buses) new) tt (of_once (has_bus bus.name d.buses) new h)
of_with_line d (said.Mtu n) h k = of_once (is_some d.mtu) (record d { mtu = Some n }) h
of_with_line d (said.Rate n) h k = of_once (is_some d.rate) (record d { rate = Some n }) h
of_with_line d (said.Timeout t) h k = of_once (is_some d.timeout) (record d { timeout = Some t }) h
of_with_line d said.Silent h k = of_once d.silent (record d { silent = true }) h
of_with_line d (said.Sub s) h k =
    let new = record d { subs = d.subs ++ s ∷ [] } in
    either (nat_le 64 (length d.subs)) (Err why.Range) (once (has_subject s.port d.subs) new) tt
    (of_once (has_subject s.port d.subs) new (All-push (λ sub. IsShape sub.shape) d.subs s h k))
of_with_line d (said.UnknownType port) h k =
    either (nat_le 64 (length d.subs)) (Err why.Range) (if has_subject port d.subs then Err why.Repeated else Err why.UnknownType) tt
    (either (has_subject port d.subs) (Err why.Repeated) (Err why.UnknownType) tt tt)
of_with_line d (said.LongType port) h k =
    either (nat_le 64 (length d.subs)) (Err why.Range) (if has_subject port d.subs then Err why.Repeated else Err why.Range) tt
    (either (has_subject port d.subs) (Err why.Repeated) (Err why.Range) tt tt)
of_with_line d (said.Clients n) h k = of_once (is_some d.clients) (record d { clients = Some n }) h
of_with_line d (said.Status s) h k = of_once (is_some d.status) (record d { status = Some s }) h
of_with_line d (said.Info i) h k = of_once (is_some d.info) (record d { info = Some i }) h
of_with_line d (said.Queue n) h k = of_once (is_some d.queue) (record d { queue = Some n }) h
of_with_line d (said.Register r) h k =
    let new = record d { registers = d.registers ++ r ∷ [] } in
    let stands = has_register r.name d.registers in
    either (nat_le 256 (length d.registers)) (Err why.Range) (once stands new) tt (of_once stands new h)
of_with_line d (said.Limits name limits) h k = of_place (place_of name d.registers)
  where
    of_limited : (place : ℕ) (o : Option Register) → Stays (limited_at d place limits o)
    of_limited place None = tt
    of_limited place (Some r) =
        let new = record d { registers = limited d.registers place limits r } in
        either (can_limit limits r.value) (once (is_some r.limits) new) (Err why.Range) (of_once (is_some r.limits) new h) tt

    of_place : (o : Option ℕ) → Stays (limits_at d limits o)
    of_place None = tt
    of_place (Some place) = of_limited place (slice_get d.registers place)
of_with_line d (said.Serve path) h k = of_once (is_some d.serve) (record d { serve = Some path }) h

of_behind : (d : Draft) (s : Said) → HaveRules d.subs → KeepsRules s → Stays (if is_some d.version then with_line d s else Err why.Line)
of_behind d s h k = either (is_some d.version) (with_line d s) (Err why.Line) (of_with_line d s h k) tt

of_step : (d : Draft) (s : Said) → HaveRules d.subs → KeepsRules s → Stays (step d s)
of_step d said.NoForm h k = tt
of_step d said.Nothing h k = h
of_step d (said.Version v) h k = of_with_version d d.version v h
of_step d said.Outside h k = of_behind d said.Outside h k
of_step d (said.Node n) h k = of_behind d (said.Node n) h k
of_step d (said.Bus bus) h k = of_behind d (said.Bus bus) h k
of_step d (said.Mtu n) h k = of_behind d (said.Mtu n) h k
of_step d (said.Rate n) h k = of_behind d (said.Rate n) h k
of_step d (said.Timeout t) h k = of_behind d (said.Timeout t) h k
of_step d said.Silent h k = of_behind d said.Silent h k
of_step d (said.Sub s) h k = of_behind d (said.Sub s) h k
of_step d (said.UnknownType port) h k = of_behind d (said.UnknownType port) h k
of_step d (said.LongType port) h k = of_behind d (said.LongType port) h k
of_step d (said.Clients n) h k = of_behind d (said.Clients n) h k
of_step d (said.Status s) h k = of_behind d (said.Status s) h k
of_step d (said.Info i) h k = of_behind d (said.Info i) h k
of_step d (said.Queue n) h k = of_behind d (said.Queue n) h k
of_step d (said.Register r) h k = of_behind d (said.Register r) h k
of_step d (said.Limits name limits) h k = of_behind d (said.Limits name limits) h k
of_step d (said.Serve path) h k = of_behind d (said.Serve path) h k

-- ---- the plan of a text

abbrev IfGood : PlanIs → Type 0
IfGood (Good plan) = HaveRules plan.subs
IfGood (Bad n why) = Unit {0}

abbrev ended : ℕ → Option Plan → PlanIs
ended n None = Bad n why.Line
ended n (Some plan) = Good plan

if_good : (n : ℕ) (o : Option Plan) → IfSome o (λ plan. HaveRules plan.subs) → IfGood (ended n o)
if_good n None h = tt
if_good n (Some plan) h = h

of_complete : (d : Draft) (node : Option ℕ) → HaveRules d.subs → IfSome (complete (record d { node = node })) (λ plan. HaveRules plan.subs)
of_complete d None h = tt
of_complete d (Some node) h =
    cond_both (has_all d) (Some (plan_with d node)) None (λ (o : Option Plan). IfSome o (λ plan. HaveRules plan.subs)) (λ _. h) (λ _. tt)

of_finished : (d : Draft) (n : ℕ) → HaveRules d.subs → IfGood (finished d n)
of_finished d n h = if_good n (complete d) (of_complete d d.node h)

module _ (names : Namespace) (types : IsNamespace names) where
  of_follows : (r : Result Draft PlanWhy) (n : ℕ) (Others : Draft → PlanIs → Type 0) (is : PlanIs) → Stays r → ((new : Draft) → HaveRules new.subs → Others new is → IfGood is) → Follows r n Others is → IfGood is
  of_follows (Err e) n Others is h k f = subst IfGood (sym f) tt
  of_follows (Ok d) n Others is h k f = k d h f

  of_read : (d : Draft) (n : ℕ) (line : List ℕ) (Others : Draft → PlanIs → Type 0) (is : PlanIs) → HaveRules d.subs → ((new : Draft) → HaveRules new.subs → Others new is → IfGood is) → Line names d n line Others is → IfGood is
  of_read d n line Others is h k t =
      of_follows (step d t.0) n Others is (of_step d t.0 h (of_says names types (is_two d.version) line t.0 t.1)) k t.2

  of_end : (is_long : Bool) (d : Draft) (n : ℕ) (part : List ℕ) (is : PlanIs) → HaveRules d.subs → Ends names is_long d n part is → IfGood is
  of_end true d n part is h e = subst IfGood (sym e) tt
  of_end false d n [] is h e = subst IfGood (sym e) (of_finished d n h)
  of_end false d n (b ∷ s) is h e =
      of_read d n (b ∷ s) (λ new is. is ≡ finished new (n + 1)) is h (λ new g e. subst IfGood (sym e) (of_finished new (n + 1) g)) e

  of_parts : (is_long : Bool) (d : Draft) (n : ℕ) (parts : List (List ℕ)) (is : PlanIs) → HaveRules d.subs → Goes names is_long d n parts is → IfGood is
  of_parts is_long d n [] is h g = of_end is_long d n [] is h g
  of_parts is_long d n (part ∷ []) is h g = of_end is_long d n part is h g
  of_parts is_long d n (line ∷ part ∷ parts) is h g =
      of_read d n line (λ new is. Goes names is_long new (n + 1) (part ∷ parts) is) is h (λ new k t. of_parts is_long new (n + 1) (part ∷ parts) is k t) g

pub plans_keep_type_rules : PlansKeepTypeRules
plans_keep_type_rules names text plan types g =
    of_parts names types (nat_lt (limit_of text) (length text)) start 1 (parts_of 10 (take (limit_of text) text)) (Good plan) (All-nil (λ sub. IsShape sub.shape)) g
