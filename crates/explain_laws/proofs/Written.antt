-- What `explain` writes is the text of its lines, and they have their own text.
use Rattle.std.proofs.Common.{◌≡◌, ◌∙◌, ℕ, suc, zero, ◌+◌, ◌*◌, ◌<◌, ◌≤◌, ◌^◌, Bool, not, ◌&&◌, List, [], ◌∷◌, ◌++◌, length, map, take, is_some, Option, Some, None, refl, sym, ap, subst, append-nil, append_assoc, length-append, arith}
use Rattle.std.specs.Prelude.{⊤, All, AllPairs, IsTrue, ◌≢◌}
use Rattle.std.proofs.lemmas.Bool.{cond_both}
use Rattle.std.proofs.lemmas.List.{get_or-map, length-map}
use Rattle.std.proofs.lemmas.List.Elements.{All-head, All-map, All-tail}
use Rattle.can_id.specs.declared.key.Kind.{Kind}
use Rattle.can_id.specs.declared.key.Kind.TheVariants as kind
use Rattle.tail_frame.specs.declared.logged.Record.{Record}
use Rattle.rx_table.specs.Admitted.{admitted, has, is_on, key_of, sources}
use Rattle.rx_table.specs.Heard.{frames}
use Rattle.rx_table.specs.Keys.{KeyedFrame, SessionKey, history}
use Rattle.rx_table.specs.Laws.{EachPort}
use Rattle.rx_table.specs.Ports.{Port}
use Rattle.rx_table.proofs.Admissions.{admitted_few}
use Rattle.delivery_theorems.specs.Report.{EachNumber}
use Rattle.std_types.specs.declared.registers.Register.{Register}
use Rattle.node_plan.specs.IsPlan.{IsPlan}
use Rattle.node_plan.specs.Names.{is_bus_name}
use Rattle.node_plan.specs.Ports.{IsPort, PlanPort, file_services, max_port, port_of_service, port_of_sub, ports, register_services, services, status_services}
use Rattle.node_plan.specs.declared.plan.BusPlan.{BusPlan}
use Rattle.node_plan.specs.declared.plan.Plan.{Plan}
use Rattle.node_plan.specs.declared.services.Service.{Service}
use Rattle.node_plan.proofs.PortLemmas.{ports_fit}
use Rattle.node_core.specs.Heard.{ports_of, table_port}
use Rattle.frame_log.specs.Log.{log_of}
use Rattle.frame_log.specs.Order.{IsFit}
use Rattle.frame_log.specs.declared.error.LogError.{LogError}
use Rattle.log_loop.specs.Voice.{said, whole_text}
use Rattle.log_explain.specs.ReasonLaws.{is_badcrc}
use Rattle.log_explain.specs.Reasons.{Listens}
use Rattle.log_explain.specs.declared.reasons.reason.Reason.{Reason}
use Rattle.log_explain.specs.Counts.{count, counts, delivery_in, gaps, is_abandoned, is_copy, is_delivered, is_gap, is_handover, is_standby, is_stray, last}
use Rattle.log_explain.specs.Explained.{explain_voice, last_text, listens_by, names_of}
use Rattle.log_explain.specs.Lines.{is_in, line_on, lines, of_session, session_of, sessions, sessions_of, sessions_on}
use Rattle.log_explain.specs.Sessions.{Session}
use Rattle.log_explain.specs.Text.{end_text, frame_text, session_text, sessions_text}
use Rattle.log_explain.specs.declared.line.FrameLine.{FrameLine}
use Rattle.explain_laws.specs.Text.{AreBehind, AreLines, AreNames, AtEnd, IsNumber, IsOnSession, IsTally, Line, OnRecord, OnSession, TextTells, line_text, text}
use Rattle.explain_laws.specs.Written.{ExplainedIsText, ExplainedTells, WrittenHaveOwnText, end_lines, last_lines, logged, on_records, record_lines, refusal_in, written}
use Rattle.explain_laws.proofs.Logs.{all_logged, few_logged}
use Rattle.explain_laws.proofs.Ranges.{FramesFit, IsLogged, force_fits, frames_fit, history_fits, line_fits}

-- ---- what is written is the text of lines

module _ (names : List (List ℕ)) where
  text_append : (a b : List Line) → text names (a ++ b) ≡ text names a ++ text names b
  text_append [] b = refl
  text_append (line ∷ a) b = ap (λ (t : List ℕ). line_text names line ++ t) (text_append a b) ∙ sym (append_assoc (line_text names line) (text names a) (text names b))

  on_sessions : (all : List Session) (behind : List Line) → sessions_text names all ++ text names behind ≡ text names (map OnSession all ++ behind)
  on_sessions [] behind = refl
  on_sessions (s ∷ all) behind =
      append_assoc (session_text names s) (sessions_text names all) (text names behind) ∙ ap (λ (t : List ℕ). session_text names s ++ t) (on_sessions all behind)

said_on : (plan : Plan) (past : List Record) → said (explain_voice plan) past ≡ text (names_of plan) (record_lines plan past)
said_on plan [] = refl
said_on plan (rec ∷ past) =
    let names = names_of plan in
    let line = line_on (listens_by plan) rec past in
    (λ i. said_on plan past i ++ sym (append-nil (frame_text names line)) i) ∙ sym (text_append names (record_lines plan past) (OnRecord line ∷ []))

said_at_end : (plan : Plan) (past : List Record) → last_text plan past ≡ text (names_of plan) (last_lines plan past)
said_at_end plan past =
    let names = names_of plan in
    let all = sessions (listens_by plan) past in
    let last = end_text (length past) (length all) in
    ap (λ (t : List ℕ). sessions_text names all ++ t) (sym (append-nil last)) ∙ on_sessions names all (AtEnd (length past) (length all) ∷ [])

pub explained_is_text : ExplainedIsText
explained_is_text plan bytes = by_end (refusal_in plan bytes)
  where
    by_end : (refusal : Option LogError) → whole_text (explain_voice plan) (logged plan bytes) refusal ≡ text (names_of plan) (record_lines plan (logged plan bytes) ++ end_lines plan (logged plan bytes) refusal)
    by_end (Some refusal) = (λ i. said_on plan (logged plan bytes) i ++ []) ∙ sym (text_append (names_of plan) (record_lines plan (logged plan bytes)) [])
    by_end None = (λ i. said_on plan (logged plan bytes) i ++ said_at_end plan (logged plan bytes) i) ∙ sym (text_append (names_of plan) (record_lines plan (logged plan bytes)) (last_lines plan (logged plan bytes)))

-- ---- the names of a plan's buses

abbrev name : BusPlan → List ℕ
name bus = bus.name

no_bus : BusPlan
no_bus = record { name = []; mtu = 0; rate = 0 }

all_differ : (buses : List BusPlan) → AllPairs (λ a b. a.name ≢ b.name) buses → AllPairs (λ a b. a ≢ b) (map name buses)
all_differ buses h i j d less low same =
    let size = length-map buses name in
    let first : i < length buses = omega (arith, less, low, size) in
    let second : j < length buses = omega (arith, low, size) in
    h i j no_bus less second (sym (get_or-map name buses i no_bus d first) ∙ (same ∙ get_or-map name buses j no_bus d second))

named_by : (plan : Plan) → IsPlan plan → AreNames (names_of plan)
named_by plan h = record {
  words = All-map (λ (word : List ℕ). IsTrue (is_bus_name word)) name plan.buses (λ k d less. (h.buses k d less).bytes);
  differ = all_differ plan.buses h.names;
}

-- ---- what is counted is few

count_few : (test : Reason → Bool) (ls : List FrameLine) → count test ls ≤ length ls
count_few test [] = omega arith
count_few test (line ∷ past) =
    let more = count_few test past in
    cond_both (test line.reason) 1 0 (λ (n : ℕ). count test past + n ≤ suc (length past)) (λ _. omega arith) (λ _. omega arith)

gaps_few : (ls : List FrameLine) → gaps ls ≤ length ls
gaps_few [] = omega arith
gaps_few (line ∷ past) =
    let more = gaps_few past in
    cond_both (is_gap (last past) (delivery_in line)) 1 0 (λ (n : ℕ). gaps past + n ≤ suc (length past)) (λ _. omega arith) (λ _. omega arith)

session_few : (key : SessionKey) (ls : List FrameLine) → length (of_session key ls) ≤ length ls
session_few key [] = omega arith
session_few key (line ∷ past) =
    let more = session_few key past in
    cond_both (is_in key line.transfer) (line ∷ of_session key past) (of_session key past) (λ (t : List FrameLine). length t ≤ suc (length past)) (λ _. omega arith) (λ _. omega arith)

length_lines : (w : Listens) (past : List Record) → length (lines w past) ≡ length past
length_lines w [] = refl
length_lines w (rec ∷ past) = ap suc (length_lines w past)

module _ (names : List (List ℕ)) where
  tally_fits : (ls : List FrameLine) → length ls ≤ 2 ^ 28 → IsTally names (counts ls)
  tally_fits ls few =
      let fits : (test : Reason → Bool) → IsNumber (count test ls) = λ test. let n = count_few test ls in omega (arith, n, few) in
      record {
        delivered = fits is_delivered;
        badcrc = fits is_badcrc;
        copies = fits is_copy;
        standby = fits is_standby;
        stray = fits is_stray;
        abandoned = fits is_abandoned;
        handovers = fits is_handover;
        gaps = let n = gaps_few ls in omega (arith, n, few);
      }

  -- ---- sources and sessions

  sources_fit : (kind : Kind) (port : ℕ) (log : List KeyedFrame) → FramesFit names log → EachNumber IsNumber (sources kind port log)
  sources_fit kind port [] x = tt
  sources_fit kind port (f ∷ log) x =
      let ss = sources kind port log in
      let rest = sources_fit kind port log x.1 in
      cond_both (is_on kind port f && (f.rec.start && not (has f.key.source ss))) (ss ++ f.key.source ∷ []) ss (EachNumber IsNumber) (λ _. one_more ss f.key.source rest x.0.source) (λ _. rest)
    where
      one_more : (ss : List ℕ) (s : ℕ) → EachNumber IsNumber ss → IsNumber s → EachNumber IsNumber (ss ++ s ∷ [])
      one_more [] s x h = (h, tt)
      one_more (r ∷ ss) s x h = (x.0, one_more ss s x.1 h)

  first_fit : (n : ℕ) (ss : List ℕ) → EachNumber IsNumber ss → EachNumber IsNumber (take n ss)
  first_fit zero ss x = tt
  first_fit (suc n) [] x = tt
  first_fit (suc n) (s ∷ ss) x = (x.0, first_fit n ss x.1)

  abbrev EachSession : List FrameLine → List Session → Type 0
  EachSession ls [] = ⊤
  EachSession ls (s ∷ all) = IsOnSession names ls s × EachSession ls all

  both_each : (ls : List FrameLine) (a b : List Session) → EachSession ls a → EachSession ls b → EachSession ls (a ++ b)
  both_each ls [] b p q = q
  both_each ls (s ∷ a) b p q = (p.0, both_each ls a b p.1 q)

  module _ (w : Listens) (past : List Record) (all : All (IsLogged names) past) (few : length past ≤ 2 ^ 28) where
    abbrev told : List FrameLine
    told = lines w past

    abbrev log : List KeyedFrame
    log = frames w.own past

    session_fits : (key : SessionKey) → IsNumber key.port → IsNumber key.source → IsOnSession names (lines w past) (session_of w past key)
    session_fits key port source =
        let n = session_few key told in
        let m = length_lines w past in
        record {
          port = port;
          source = source;
          bus = force_fits names w.timeout (history key log) (history_fits names key log (frames_fit names w.own past all));
          tally = tally_fits (of_session key told) (omega (arith, n, m, few));
          last_is = refl;
        }

    sources_say : (p : Port) (ss : List ℕ) → IsNumber p.port → EachNumber IsNumber ss → EachSession (lines w past) (sessions_of w past p ss)
    sources_say p [] port x = tt
    sources_say p (s ∷ ss) port x = (session_fits (key_of p.kind p.port s) port x.0, sources_say p ss port x.1)

    ports_say : (ports : List Port) → EachPort (λ p. IsNumber p.port) ports → EachSession (lines w past) (sessions_on w past ports)
    ports_say [] x = tt
    ports_say (p ∷ ports) x =
        let ss = admitted p.kind p.port p.sources log in
        let each = first_fit p.sources (sources p.kind p.port log) (sources_fit p.kind p.port log (frames_fit names w.own past all)) in
        both_each told (sessions_of w past p ss) (sessions_on w past ports) (sources_say p ss x.0 each) (ports_say ports x.1)

    length_sources : (p : Port) (ss : List ℕ) → length (sessions_of w past p ss) ≡ length ss
    length_sources p [] = refl
    length_sources p (s ∷ ss) = ap suc (length_sources p ss)

    few_sessions : (ports : List Port) → EachPort (λ p. p.sources ≤ 128) ports → length (sessions_on w past ports) ≤ 128 * length ports
    few_sessions [] x = omega arith
    few_sessions (p ∷ ports) x =
        let ss = admitted p.kind p.port p.sources log in
        let one = length_sources p ss in
        let most = admitted_few p.kind p.port p.sources log in
        let more = few_sessions ports x.1 in
        let whole = length-append (sessions_of w past p ss) (sessions_on w past ports) in
        let limit = x.0 in omega (arith, one, most, more, whole, limit)

    -- ---- the lines

    -- all lines on records, and what comes behind them
    records_are : (older : List Record) (acc : List FrameLine) (rest : List Line) → All (IsLogged names) older → AreBehind names (lines w older ++ acc) rest → AreBehind names acc (on_records (lines w older) ++ rest)
    records_are [] acc rest h b = b
    records_are (rec ∷ older) acc rest h b =
        let line = line_on w rec older in
        let fits = line_fits names w rec older (All-head (IsLogged names) rec older h) (All-tail (IsLogged names) rec older h) in
        subst (AreBehind names acc) (sym (append_assoc (on_records (lines w older)) (OnRecord line ∷ []) rest))
        (records_are older acc (OnRecord line ∷ rest) (All-tail (IsLogged names) rec older h) (fits, b))

    sessions_are : (ls : List FrameLine) (some : List Session) (rest : List Line) → EachSession ls some → AreBehind names ls rest → AreBehind names ls (map OnSession some ++ rest)
    sessions_are ls [] rest x b = b
    sessions_are ls (s ∷ some) rest x b = (x.0, sessions_are ls some rest x.1 b)

-- ---- the ports of a plan

few_services : (plan : Plan) → length (services plan) ≤ 8
few_services plan =
    let s = few_status in
    let r = few_registers plan.registers in
    let f = few_files in
    let inner = length-append (status_services plan) (register_services plan) in
    let outer = length-append (status_services plan ++ register_services plan) (file_services plan) in
    omega (arith, s, r, f, inner, outer)
  where
    few_status : length (status_services plan) ≤ 1
    few_status = cond_both plan.silent [] _ (λ (t : List Service). length t ≤ 1) (λ _. omega arith) (λ _. omega arith)

    few_registers : (rs : List Register) → length (register_services (record plan { registers = rs })) ≤ 2
    few_registers [] = omega arith
    few_registers (r ∷ rs) = omega arith

    few_files : length (file_services plan) ≤ 5
    few_files = cond_both (is_some plan.serve) _ [] (λ (t : List Service). length t ≤ 5) (λ _. omega arith) (λ _. omega arith)

few_ports : (plan : Plan) → IsPlan plan → length (ports_of plan) ≤ 72
few_ports plan h =
    let subs = map port_of_sub plan.subs in
    let others = map port_of_service (services plan) in
    let whole = length-map (ports plan) table_port in
    let both = length-append subs others in
    let first = length-map plan.subs port_of_sub in
    let second = length-map (services plan) port_of_service in
    let most = h.few_subs in
    let few = few_services plan in
    omega (arith, whole, both, first, second, most, few)

number_of_port : (kind : Kind) (n : ℕ) → n ≤ max_port kind → IsNumber n
number_of_port kind.Message n h = omega arith
number_of_port kind.Request n h = omega arith
number_of_port kind.Response n h = omega arith

numbered : (ps : List PlanPort) → All IsPort ps → EachPort (λ p. IsNumber p.port) (map table_port ps)
numbered [] h = tt
numbered (p ∷ ps) h = (number_of_port p.kind p.port (All-head IsPort p ps h).port, numbered ps (All-tail IsPort p ps h))

limited : (ps : List PlanPort) → All IsPort ps → EachPort (λ p. p.sources ≤ 128) (map table_port ps)
limited [] h = tt
limited (p ∷ ps) h = ((All-head IsPort p ps h).few_sources, limited ps (All-tail IsPort p ps h))

-- the lines at the end of a log
at_end : (plan : Plan) → IsPlan plan → (past : List Record) → All (IsLogged (names_of plan)) past → length past ≤ 2 ^ 28 → (refusal : Option LogError)
    → AreBehind (names_of plan) (lines (listens_by plan) past) (end_lines plan past refusal)
at_end plan h past all few (Some refusal) = tt
at_end plan h past all few None =
    let names = names_of plan in
    let w = listens_by plan in
    let fit = ports_fit plan h in
    let most = few_sessions names w past all few (ports_of plan) (limited (ports plan) fit) in
    let limit = few_ports plan h in
    let count : IsNumber (length (sessions w past)) = omega (arith, most, limit) in
    let number : IsNumber (length past) = omega (arith, few) in
    sessions_are names w past all few (lines w past) (sessions w past) (AtEnd (length past) (length (sessions w past)) ∷ [])
    (ports_say names w past all few (ports_of plan) (numbered (ports plan) fit)) (number, count, tt)

pub have_own_text : ((buses : List (List ℕ)) (bytes : List ℕ) → All (IsFit buses) (log_of buses bytes).records) → WrittenHaveOwnText
have_own_text law plan bytes h = record { named = named_by plan h; are = by_end (refusal_in plan bytes) }
  where
    by_end : (refusal : Option LogError) → AreLines (names_of plan) (record_lines plan (logged plan bytes) ++ end_lines plan (logged plan bytes) refusal)
    by_end refusal =
        let names = names_of plan in
        let past = logged plan bytes in
        let w = listens_by plan in
        let told = lines w past in
        let all = all_logged names bytes (law names bytes) in
        let few = few_logged names bytes in
        records_are names w past all few past [] (end_lines plan past refusal) all
        (subst (λ (acc : List FrameLine). AreBehind names acc (end_lines plan past refusal)) (sym (append-nil told)) (at_end plan h past all few refusal))

pub explained_tells : ExplainedIsText → TextTells → WrittenHaveOwnText → ExplainedTells
explained_tells is tells own plan a b h e =
    let p = own plan a h in
    let q = own plan b h in
    tells (names_of plan) (written plan a) (written plan b) p.named p.are q.are (sym (is plan a) ∙ (e ∙ is plan b))
