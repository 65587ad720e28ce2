-- The sessions that are told are those of the plan.
use Rattle.std.proofs.Common.{◌≡◌, ◌∙◌, ℕ, suc, ◌+◌, Bool, true, false, cond, ◌&&◌, eqb, List, [], ◌∷◌, ◌++◌, length, map, Option, Some, None, refl, sym, length-append, arith}
use Rattle.std.specs.Prelude.{All, AllPairs}
use Rattle.std.proofs.lemmas.Bool.{and_parts, cond-true, cond_both, eq-eqb, eqb-true, and_from, or_left, or_right}
use Rattle.std.proofs.lemmas.List.Elements.{All-append, All-cons, All-head, All-nil, All-tail}
use Rattle.can_id.specs.declared.key.Kind.{Kind}
use Rattle.can_id.specs.declared.key.Kind.TheVariants.{Message, Request, Response}
use Rattle.tail_frame.specs.declared.logged.Record.{Record}
use Rattle.rx_table.specs.Admitted.{admitted, has}
use Rattle.rx_table.specs.Heard.{frames}
use Rattle.rx_table.specs.Keys.{KeyedFrame, same_kind}
use Rattle.rx_table.specs.Laws.{EachPort}
use Rattle.rx_table.specs.Ports.{Port, port_at}
use Rattle.delivery_theorems.specs.Report.{EachNumber}
use Rattle.node_plan.specs.IsPlan.{IsPlan}
use Rattle.node_plan.specs.Ports.{Differ, PlanPort, ports}
use Rattle.node_plan.specs.declared.plan.Plan.{Plan}
use Rattle.node_plan.proofs.PortLemmas.{ports_differ}
use Rattle.node_core.specs.Heard.{ports_of, table_port}
use Rattle.session_lines.proofs.Projection.{same_kind-true}
use Rattle.log_explain.specs.Counts.{count, is_delivered, one_if}
use Rattle.log_explain.specs.Explained.{listens_by}
use Rattle.log_explain.specs.Lines.{sessions_of, sessions_on}
use Rattle.log_explain.specs.Sessions.{Session}
use Rattle.log_explain.specs.declared.line.FrameLine.{FrameLine}
use Rattle.cyphal.specs.Delivered.{IsToldSession, SessionsAreTold, delivered}
use Rattle.cyphal.specs.Headline.{logged_in}

-- ---- the number of lines that say `delivered`

counted : (ls : List FrameLine) → count is_delivered ls ≡ length (delivered ls)
counted [] = refl
counted (line ∷ past) = by_test (is_delivered line.reason) (counted past)
  where
    by_test : (t : Bool) → count is_delivered past ≡ length (delivered past) → count is_delivered past + one_if t ≡ length (delivered past ++ cond t (line ∷ []) [])
    by_test true more = let size = length-append (delivered past) (line ∷ []) in omega (arith, more, size)
    by_test false more = let size = length-append (delivered past) [] in omega (arith, more, size)

-- ---- each port is found by its kind and number

kind_same : (kind : Kind) → same_kind kind kind ≡ true
kind_same Message = refl
kind_same Request = refl
kind_same Response = refl

-- whether a port is of this kind and number
abbrev fits : Kind → ℕ → Port → Bool
fits kind port p = same_kind kind p.kind && eqb port p.port

not_among : (p : PlanPort) (ps : List PlanPort) → All (Differ p) ps → port_at p.kind p.port (map table_port ps) ≡ None
not_among p [] h = refl
not_among p (q ∷ ps) h =
    cond_both (fits p.kind p.port (table_port q)) (Some (table_port q)) (port_at p.kind p.port (map table_port ps)) (λ (o : Option Port). o ≡ None)
    (λ y. (let both = and_parts (same_kind p.kind q.kind) (eqb p.port q.port) y in absurd (All-head (Differ p) q ps h (same_kind-true p.kind q.kind both.0) (eqb-true p.port q.port both.1))))
    (λ _. not_among p ps (All-tail (Differ p) q ps h))

abbrev IsFound : List Port → Port → Type 0
IsFound all p = port_at p.kind p.port all ≡ Some p

each_map : (P Q : Port → Type 0) → ((p : Port) → P p → Q p) → (ps : List Port) → EachPort P ps → EachPort Q ps
each_map P Q f [] x = tt
each_map P Q f (p ∷ ps) x = (f p x.0, each_map P Q f ps x.1)

-- behind another port, of which there is none among these
found_behind : (first p : Port) (ps : List Port) → port_at first.kind first.port ps ≡ None → IsFound ps p → IsFound (first ∷ ps) p
found_behind first p ps none found =
    cond_both (fits p.kind p.port first) (Some first) (port_at p.kind p.port ps) (λ (o : Option Port). o ≡ Some p)
    (λ y.
    let both = and_parts (same_kind p.kind first.kind) (eqb p.port first.port) y in
    let kind = same_kind-true p.kind first.kind both.0 in
    let port = eqb-true p.port first.port both.1 in
    let bad : Some p ≡ None = sym found ∙ ((λ i. port_at (kind i) (port i) ps) ∙ none) in absurd cc)
    (λ _. found)

all_found : (ps : List PlanPort) → AllPairs Differ ps → EachPort (IsFound (map table_port ps)) (map table_port ps)
all_found [] h = tt
all_found (p ∷ ps) h =
    let first = table_port p in
    let more = map table_port ps in
    let none = not_among p ps (λ k d less. h 0 (suc k) d (omega arith) (omega (arith, less))) in
    let rest = all_found ps (λ i j d less low. h (suc i) (suc j) d (omega (arith, less)) (omega (arith, low))) in (
      cond-true (fits p.kind p.port first) (Some first) (port_at p.kind p.port more) (and_from (same_kind p.kind p.kind) (eqb p.port p.port) (kind_same p.kind) (eq-eqb p.port p.port refl)),
      each_map (IsFound more) (IsFound (first ∷ more)) (λ q found. found_behind first q more none found) more rest,
    )

-- ---- each source has its session

has_each : (ss : List ℕ) → EachNumber (λ s. has s ss ≡ true) ss
has_each ss = among ss ss (λ s h. h)
  where
    among : (all some : List ℕ) → ((s : ℕ) → has s some ≡ true → has s all ≡ true) → EachNumber (λ s. has s all ≡ true) some
    among all [] h = tt
    among all (s ∷ some) h =
        (h s (or_left (eqb s s) (has s some) (eq-eqb s s refl)), among all some (λ t m. h t (or_right (eqb s t) (has t some) m)))

module _ (plan : Plan) (bytes : List ℕ) where
  abbrev past : List Record
  past = logged_in plan bytes

  abbrev log : List KeyedFrame
  log = frames plan.node past

  abbrev P : Session → Type 0
  P s = IsToldSession plan bytes s

  of_port : (p : Port) → IsFound (ports_of plan) p → (ss : List ℕ) → EachNumber (λ s. has s (admitted p.kind p.port p.sources log) ≡ true) ss → All P (sessions_of (listens_by plan) past p ss)
  of_port p found [] x = All-nil P
  of_port p found (s ∷ ss) x =
      All-cons P _ (sessions_of (listens_by plan) past p ss) (record { port = p; session = record { port = found; admitted_there = x.0 }; delivered = counted _ })
      (of_port p found ss x.1)

  of_ports : (ps : List Port) → EachPort (IsFound (ports_of plan)) ps → All P (sessions_on (listens_by plan) past ps)
  of_ports [] x = All-nil P
  of_ports (p ∷ ps) x =
      let ss = admitted p.kind p.port p.sources log in
      All-append P (sessions_of (listens_by plan) past p ss) (sessions_on (listens_by plan) past ps) (of_port p x.0 ss (has_each ss)) (of_ports ps x.1)

pub sessions_are_told : (plan : Plan) → IsPlan plan → (bytes : List ℕ) → SessionsAreTold plan bytes
sessions_are_told plan h bytes = of_ports plan bytes (ports_of plan) (all_found (ports plan) (ports_differ plan h))
