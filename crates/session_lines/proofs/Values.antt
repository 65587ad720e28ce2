-- What is sent as a value is reported as that value.
use Rattle.std.proofs.Common.{◌≡◌, ◌∙◌, ◌≤◌, ◌<◌, true, ◌&&◌, eqb, List, [], ◌∷◌, ◌++◌, length, take, Option, Some, refl, sym, ap, subst, arith}
use Rattle.std.proofs.lemmas.Bool.{and_parts, eqb-true, eq-eqb, ne_eqb, cond-true, cond-false, cond_both}
use Rattle.std.proofs.lemmas.List.Elements.{All-contains, Contains-append_left, recursion_from_All}
use Rattle.std.specs.Prelude.{Contains}
use Rattle.dsdl_types.specs.Laws.{RoundTrip, WithinExtent, Evolution}
use Rattle.dsdl_types.specs.Rules.{IsSchema}
use Rattle.dsdl_types.specs.Schemas.{Sch, is_composite}
use Rattle.dsdl_types.specs.Sound.{IsSound}
use Rattle.std_types.specs.Types.{schema_of}
use Rattle.std_types.specs.declared.std_name.StdName.{StdName}
use Rattle.tail_frame.specs.Chains.{KeyRecord, AtEach}
use Rattle.rx_table.specs.Heard.{frames}
use Rattle.rx_table.specs.Keys.{SessionKey, KeyedFrame, bears_on, history, same_kind, EachFrame, IsLog}
use Rattle.frag.specs.Sent.{transfer_at, data_on, size_on, pair_at}
use Rattle.frag.specs.Wire.{padding}
use Rattle.frag.specs.declared.sent.Pair.{Pair}
use Rattle.delivery_theorems.specs.Report.{AnyRx, EachRx, IsSentRx, OnceInReport, DueInReport, pair_on}
use Rattle.node_plan.specs.IsPlan.{IsShape}
use Rattle.node_plan.specs.Ports.{ports}
use Rattle.node_plan.specs.declared.plan.Plan.{Plan}
use Rattle.report_lines.specs.Readings.{reading_of}
use Rattle.node_core.specs.Steps.{lines, all_lines, emptying, records}
use Rattle.node_core.specs.Types.{type_on}
use Rattle.report_lines.specs.declared.line.Line.{Line}
use Rattle.report_lines.specs.declared.line.Line.TheVariants.{Rx}
use Rattle.report_lines.specs.declared.line.Rx.{Rx as Received}
use Rattle.session_lines.specs.Readings.{HasReading, LinesHaveReadings}
use Rattle.session_lines.specs.Reported.{Reported, StepsReportAll, is_key, is_source, of_key, rxs, without_key}
use Rattle.session_lines.specs.Values.{SaysValue, type_of, ValuesInReport, DueValuesInReport}
use Rattle.session_lines.proofs.Projection.{same_kind-true}
use Rattle.session_lines.proofs.SessionLines.{at_line, some_line}
use Rattle.session_lines.proofs.TypedPorts.{ports_typed, typed_port}
use Rattle.session_lines.proofs.Versions.{says_value}

-- a line of a session has its port's type
line_type : (plan : Plan) (key : SessionKey) (rx : Received) → is_key key rx.key ≡ true → type_on plan rx.key ≡ type_of plan key
line_type plan key rx y =
    let a = and_parts (same_kind rx.key.kind key.kind) (eqb rx.key.port key.port && is_source rx.key.source key.source) y in
    let b = and_parts (eqb rx.key.port key.port) (is_source rx.key.source key.source) a.1 in
    ap (λ kind. type_on plan (record { kind = kind; port = rx.key.port; source = Some key.source })) (same_kind-true rx.key.kind key.kind a.0)
    ∙ ap (λ n. type_on plan (record { kind = key.kind; port = n; source = Some key.source })) (eqb-true rx.key.port key.port b.0)

-- ---- the line on which a record stands

-- a record stands behind those that came before it
abbrev Behind : KeyRecord → List KeyRecord → Type 0
Behind r past = AtEach (λ e _. (e.moment ≤ r.moment) × (e.line < r.line)) past

each_of_key : (P : KeyRecord → Type 0) (key : SessionKey) (log : List KeyedFrame) → EachFrame (λ f. P f.rec) log → AtEach (λ r _. P r) (history key log)
each_of_key P key [] x = tt
each_of_key P key (f ∷ log) x =
    cond_both (bears_on key f) (f.rec ∷ history key log) (history key log) (AtEach (λ r _. P r)) (λ _. (x.0, each_of_key P key log x.1)) (λ _. each_of_key P key log x.1)

in_order : (key : SessionKey) (log : List KeyedFrame) → IsLog log → AtEach Behind (history key log)
in_order key [] x = tt
in_order key (f ∷ log) x =
    cond_both (bears_on key f) (f.rec ∷ history key log) (history key log) (AtEach Behind)
    (λ _. (each_of_key (λ e. (e.moment ≤ f.rec.moment) × (e.line < f.rec.line)) key log x.0, in_order key log x.1)) (λ _. in_order key log x.1)

below : (r : KeyRecord) (newer : List KeyRecord) (q : KeyRecord) (past : List KeyRecord) → Behind r (newer ++ q ∷ past) → q.line < r.line
below r [] q past h = h.0.1
below r (e ∷ newer) q past h = below r newer q past h.1

pair_at_place : (origin : List Pair) (newer : List KeyRecord) (q : KeyRecord) (past : List KeyRecord) → AtEach Behind (newer ++ q ∷ past) → pair_on origin (newer ++ q ∷ past) q.line ≡ pair_at origin (length past)
pair_at_place origin [] q past h = cond-true (eqb q.line q.line) (pair_at origin (length past)) (pair_on origin past q.line) (eq-eqb q.line q.line refl)
pair_at_place origin (r ∷ newer) q past h =
    let less = below r newer q past h.0 in
    cond-false (eqb r.line q.line) (pair_at origin (length (newer ++ q ∷ past))) (pair_on origin (newer ++ q ∷ past) q.line) (ne_eqb r.line q.line (λ e. absurd (omega arith)))
    ∙ pair_at_place origin newer q past h.1

module _ (reported : Reported) (report_all : StepsReportAll) (readings : LinesHaveReadings) (once : OnceInReport) (rules : (name : StdName) → IsSchema (schema_of name)) (composite : (name : StdName) → is_composite (schema_of name) ≡ true)
    (sound : (s : Sch) → IsSchema s → IsSound s) (round : (s : Sch) → RoundTrip s) (within : (s : Sch) → WithinExtent s) (evolution : Evolution) where
  pub values_are : ValuesInReport
  values_are plan key steps p port sent origin front rest h parts rx line =
      let ls = all_lines plan steps in
      let stands : Contains ls (Rx rx) = subst (λ (t : List Line). Contains t (Rx rx)) (sym parts) (Contains-append_left front rest (Rx rx) line.stands) in
      let recs = of_key plan key (records steps) in
      let j = (pair_on origin recs rx.last).j in
      let selected = once plan.timeout p.extent sent key origin (frames plan.node (records steps)) h.log h.explains in
      let each : EachRx (IsSentRx p.extent sent origin recs) (rxs key ls) =
      subst (EachRx (IsSentRx p.extent sent origin recs)) (sym (report_all plan key steps ∙ reported plan key steps p h.session)) selected.sent_ones in
      let mine : IsSentRx p.extent sent origin recs (without_key rx) = at_line key (IsSentRx p.extent sent origin recs) ls rx each (record { stands = stands; is_of_key = line.is_of_key }) in
      let typed = ports_typed rules composite plan (recursion_from_All (λ sub. IsShape sub.shape) plan.subs h.rules) in
      let type = typed_port key.kind key.port (ports plan) p port typed h.session.port h.typed in
      let read : rx.reading ≡ reading_of (type_on plan rx.key) rx.payload = All-contains (HasReading plan) ls (Rx rx) (readings plan steps) stands in
      let is : rx.reading ≡ reading_of (Some port) (take p.extent (data_on sent j rx.bus)) =
      read ∙ (ap (λ (t : Option Sch). reading_of t rx.payload) (line_type plan key rx line.is_of_key ∙ h.typed) ∙ ap (reading_of (Some port)) mine.payload) in
      subst (SaysValue port (transfer_at sent j).payload) (sym is)
      (says_value round within evolution port p.extent type.extent_is (sound port type.rules) type.composite (transfer_at sent j).payload
      (padding (size_on sent rx.bus) (length (transfer_at sent j).payload)))

pub due_values_are : Reported → ValuesInReport → DueInReport → DueValuesInReport
due_values_are reported values due_law plan key steps p port sent origin q behind h due =
    let ls = lines plan steps in
    let recs = of_key plan key (records steps) in
    let some : AnyRx (λ rx. rx.last ≡ q.line) (rxs key ls) =
    subst (AnyRx (λ rx. rx.last ≡ q.line)) (sym (reported plan key steps p h.session)) (due_law plan.timeout p.extent sent key origin recs q h.explains due) in
    let l = some_line key (λ rx. rx.last ≡ q.line) ls some in
    let order = in_order key (frames plan.node (records steps)) h.log in
    let pair : pair_on origin recs l.rx.last ≡ pair_at origin (length due.past) =
    ap (pair_on origin recs) l.is
    ∙ (ap (λ (t : List KeyRecord). pair_on origin t q.line) due.split ∙ pair_at_place origin due.newer q due.past (subst (AtEach Behind) due.split order)) in
    let j : (pair_on origin recs l.rx.last).j ≡ due.j = ap (λ (o : Pair). o.j) pair ∙ due.due.end_j in
    record {
      rx = l.rx;
      line = record { stands = Contains-append_left ls behind (Rx l.rx) l.line.stands; is_of_key = l.line.is_of_key };
      last = l.is;
      says = subst (λ n. SaysValue port (transfer_at sent n).payload l.rx.reading) j (values plan key steps p port sent origin ls (emptying plan steps) h refl l.rx l.line);
    }
