-- Tables of a plan's ports.
use Rattle.std.proofs.Common.{◌≡◌, ◌≢◌, ◌∙◌, ℕ, zero, suc, ◌+◌, ◌<◌, ◌≤◌, eqb, ◌&&◌, false, List, [], ◌∷◌, ◌++◌, length, take, map, get_or, sum_by, Some, None, refl, sym, ap, subst, arith, AllPairs, length-append}
use Rattle.std.proofs.Math.ListN.{get_or-append}
use Rattle.std.proofs.lemmas.List.{length-map, get_or-append-add, get_or-map, get_or_default, map-append, take_more}
use Rattle.std.proofs.lemmas.List.Sums.{sum_by-cons}
use Rattle.std.proofs.lemmas.Bool.{cond-false, ne_eqb}
use Rattle.can_id.specs.declared.key.Kind.{Kind}
use Rattle.can_id.specs.declared.key.Kind.TheVariants.{Message, Request, Response}
use Rattle.node_plan.specs.Bound.{bound_of, port_bound}
use Rattle.node_plan.specs.Ports.{PlanPort, Differ, port_of_service, port_of_sub, ports, services}
use Rattle.node_plan.specs.declared.plan.Plan.{Plan}
use Rattle.node_plan.specs.declared.plan.Sub.{Sub}
use Rattle.node_plan.specs.declared.services.Service.{Service}
use Rattle.rx_table.specs.Keys.{same_kind}
use Rattle.rx_table.specs.Ports.{Port, Entry, PortState, ports_of as ports_in, port_at, bound}
use Rattle.rx_table.specs.Table.{states, EntriesHeard, HeardBy, subscribed}
use Rattle.rx_table.specs.declared.port.Port as code_port
use Rattle.rx_table.specs.declared.table.Table.{Table}
use Rattle.node_core.specs.declared.port_shape.PortShape.{PortShape}
use Rattle.node_core.specs.Heard.{ports_of, table_port}
use Rattle.node_core.specs.Shapes.{port_type, shape_extent}
use Rattle.node_core.specs.Tables.{IsTableOf, port_with}

-- later, nothing was heard later
entries_later : (now later : ℕ) (es : List Entry) → now ≤ later → EntriesHeard now es → EntriesHeard later es
entries_later now later [] h t = tt
entries_later now later (e ∷ es) h t = (omega (arith, h, t.0), entries_later now later es h t.1)

pub heard_later : (now later : ℕ) (ps : List PortState) → now ≤ later → HeardBy now ps → HeardBy later ps
heard_later now later [] h t = tt
heard_later now later (p ∷ ps) h t = (entries_later now later p.entries h t.0, heard_later now later ps h t.1)

-- ports without sources heard nothing
pub nothing_heard : (now : ℕ) (ports : List Port) → HeardBy now (map subscribed ports)
nothing_heard now [] = tt
nothing_heard now (p ∷ ps) = (tt, nothing_heard now ps)

pub ports_in-subscribed : (ports : List Port) → ports_in (map subscribed ports) ≡ ports
ports_in-subscribed [] = refl
ports_in-subscribed (p ∷ ps) = ap (λ (t : List Port). p ∷ t) (ports_in-subscribed ps)

-- the ports of a plan can hold the plan's bound
bound_of_list : (ps : List PlanPort) → bound (map table_port ps) ≡ sum_by port_bound ps
bound_of_list [] = refl
bound_of_list (p ∷ ps) = ap (λ n. port_bound p + n) (bound_of_list ps) ∙ sym (sum_by-cons port_bound p ps)

pub bound_of_ports : (plan : Plan) → bound (ports_of plan) ≡ bound_of plan
bound_of_ports plan = bound_of_list (ports plan)

length-states : (ports : List (code_port.Port PortShape)) → length (states shape_extent ports) ≡ length ports
length-states [] = refl
length-states (p ∷ ps) = ap suc (length-states ps)

-- a table of these ports has as many
pub count_of : (timeout : ℕ) (ps : List PlanPort) (table : Table PortShape) → IsTableOf timeout ps table → length table.ports.items ≡ length ps
count_of timeout ps table h =
    sym (length-states table.ports.items) ∙ (ap length h.ports_are ∙ (length-map (map table_port ps) subscribed ∙ length-map ps table_port))

-- a port is put behind the others
pub ports_more : (ps : List PlanPort) (p : PlanPort) (old new : List PortState)
    → old ≡ map subscribed (map table_port ps) → new ≡ old ++ subscribed (table_port p) ∷ [] → new ≡ map subscribed (map table_port (ps ++ p ∷ []))
ports_more ps p old new h e =
    e
    ∙ (ap (λ (t : List PortState). t ++ subscribed (table_port p) ∷ []) h
    ∙ (sym (map-append subscribed (map table_port ps) (table_port p ∷ []))
    ∙ ap (map subscribed) (sym (map-append table_port ps (p ∷ [])))))

-- kinds and numbers that differ
test_fails : (a b : Kind) (m n : ℕ) → (b ≡ a → n ≢ m) → (same_kind a b && eqb m n) ≡ false
test_fails Message Message m n h = ne_eqb m n (λ e. h refl (sym e))
test_fails Message Request m n h = refl
test_fails Message Response m n h = refl
test_fails Request Message m n h = refl
test_fails Request Request m n h = ne_eqb m n (λ e. h refl (sym e))
test_fails Request Response m n h = refl
test_fails Response Message m n h = refl
test_fails Response Request m n h = refl
test_fails Response Response m n h = ne_eqb m n (λ e. h refl (sym e))

-- a port that differs from the first ports isn't among them
absent : (ps : List PlanPort) (n : ℕ) (p : PlanPort) → ((k : ℕ) (d : PlanPort) → k < n → k < length ps → Differ (get_or ps k d) p)
    → port_at p.kind p.port (map table_port (take n ps)) ≡ None
absent ps zero p h = refl
absent [] (suc n) p h = refl
absent (q ∷ ps) (suc n) p h =
    cond-false (same_kind p.kind q.kind && eqb p.port q.port) (Some (table_port q)) (port_at p.kind p.port (map table_port (take n ps)))
    (test_fails p.kind q.kind p.port q.port (h zero q (omega arith) (omega arith)))
    ∙ absent ps n p (λ k d a b. h (suc k) d (omega arith) (omega arith))

-- a table of the first ports of a plan
module _ (timeout : ℕ) (ps : List PlanPort) (n : ℕ) (p : PlanPort) (table : Table PortShape) (is : p ≡ get_or ps n p) (within : n < length ps) where
  -- doesn't have the next
  pub not_taken : AllPairs Differ ps → IsTableOf timeout (take n ps) table → port_at p.kind p.port (ports_in (states shape_extent table.ports.items)) ≡ None
  not_taken differ h =
      ap (λ (t : List PortState). port_at p.kind p.port (ports_in t)) h.ports_are
      ∙ (ap (port_at p.kind p.port) (ports_in-subscribed (map table_port (take n ps)))
      ∙ absent ps n p (λ k d a b. subst (λ (q : PlanPort). Differ (get_or ps k d) q) (get_or_default ps n d p within ∙ sym is) (differ k n d a within)))

  -- and with it, is one of one more
  pub one_more : IsTableOf timeout (take n ps ++ p ∷ []) table → IsTableOf timeout (take (n + 1) ps) table
  one_more h =
      subst (λ (t : List PlanPort). IsTableOf timeout t table)
      (ap (λ (q : PlanPort). take n ps ++ q ∷ []) is ∙ sym (take_more ps n p within)) h

-- a shape's port is the one that it is made of
pub same_port : (p : PlanPort) (shape : PortShape) → shape_extent shape ≡ p.extent → port_type shape ≡ p.type → port_with p.kind p.port p.sources shape ≡ p
same_port p shape e t = λ i. record { kind = p.kind; port = p.port; sources = p.sources; extent = e i; type = t i }

-- the ports of a plan: those of its subscriptions, and then those of its services
module _ (plan : Plan) where
  pub of_sub : (n : ℕ) (sub : Sub) → sub ≡ get_or plan.subs n sub → n < length plan.subs → port_of_sub sub ≡ get_or (ports plan) n (port_of_sub sub)
  of_sub n sub is within =
      ap port_of_sub is
      ∙ (sym (get_or-map port_of_sub plan.subs n sub (port_of_sub sub) within)
      ∙ sym (get_or-append (map port_of_sub plan.subs) (map port_of_service (services plan)) (port_of_sub sub) n (omega (arith, within, length-map plan.subs port_of_sub))))

  pub of_service : (n : ℕ) (service : Service) → service ≡ get_or (services plan) n service → n < length (services plan)
      → port_of_service service ≡ get_or (ports plan) (length plan.subs + n) (port_of_service service)
  of_service n service is within =
      ap port_of_service is
      ∙ (sym (get_or-map port_of_service (services plan) n service (port_of_service service) within)
      ∙ (sym (get_or-append-add (map port_of_sub plan.subs) (map port_of_service (services plan)) n (port_of_service service))
      ∙ ap (λ k. get_or (ports plan) (k + n) (port_of_service service)) (length-map plan.subs port_of_sub)))

  pub count_of_ports : length (ports plan) ≡ length plan.subs + length (services plan)
  count_of_ports =
      omega (arith, length-append (map port_of_sub plan.subs) (map port_of_service (services plan)), length-map plan.subs port_of_sub, length-map (services plan) port_of_service)
