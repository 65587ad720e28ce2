-- What a table tells of a frame are the lines that the frame gives.
use Rattle.std.proofs.Common.{◌≡◌, ◌∙◌, ℕ, cond, ◌&&◌, List, [], ◌∷◌, Option, Some, None, refl, sym, ap, inl, inr}
use Rattle.std.proofs.lemmas.Bool.{cond-true, cond-false, cases_Bool}
use Rattle.can_id.specs.Identifiers.{key_of}
use Rattle.can_id.specs.declared.key.Key.{Key}
use Rattle.can_id.specs.declared.key.Kind.{Kind}
use Rattle.tail_frame.specs.Chains.{KeyRecord}
use Rattle.tail_frame.specs.Frames.{FrameOf, key_record}
use Rattle.transfer_crc.specs.Crc.{crc_of}
use Rattle.rx_session.specs.Session.{Outcome, Ignored, Held, BadCrc, Delivered}
use Rattle.rx_table.specs.Keys.{KeyedFrame, history}
use Rattle.rx_table.specs.Laws.{OutcomeTells, Tells}
use Rattle.rx_table.specs.Ports.{Port, Answer, is_admitted, AnswerIs}
use Rattle.rx_table.specs.Received.{Delivery}
use Rattle.rx_table.specs.Stands.{OutcomeIs}
use Rattle.rx_table.specs.Steps.{delivery_at, is_bad}
use Rattle.rx_table.specs.Table.{keyed, with_source, port_on, Told, ToldAt}
use Rattle.report_lines.specs.declared.line.Line.{Line}
use Rattle.report_lines.specs.declared.line.Line.TheVariants.{Rx}
use Rattle.report_lines.specs.Readings.{reading_of}
use Rattle.node_core.specs.Types.{type_on}
use Rattle.node_plan.specs.declared.plan.Plan.{Plan}
use Rattle.node_core.specs.Steps.{of_delivery, refused_line, of_session, of_source, on_port, bad_of_source, bad_on_port}
use Rattle.node_core.specs.Told.{outcome_lines, answer_lines, outcome_is_bad, answer_is_bad}

-- a frame with its key is that frame's record
rec_is : (kind : Kind) (port : ℕ) (source : Option ℕ) (f : FrameOf) (k : KeyedFrame) → with_source kind port source f ≡ Some k → key_record f ≡ k.rec
rec_is kind port None f k e = cc
rec_is kind port (Some s) f k e = let it : record { key = record { kind = kind; port = port; source = s }; rec = key_record f } ≡ k = cc in ap (λ (t : KeyedFrame). t.rec) it

-- an outcome gives the line of the delivery that it tells
outcome_tells : (plan : Plan) (key : Key) (extent : ℕ) (d : Option Delivery) (o : Outcome) → Tells d extent o → outcome_lines (type_on plan key) key o ≡ of_delivery plan extent key d
outcome_tells plan key extent d Ignored t = ap (of_delivery plan extent key) (sym t)
outcome_tells plan key extent d Held t = ap (of_delivery plan extent key) (sym t)
outcome_tells plan key extent d BadCrc t = ap (of_delivery plan extent key) (sym t)
outcome_tells plan key extent d (Delivered bus priority tid first last moment payload) (delivery, is, a, b, c, e, f, g, h) =
    (λ i. Rx (record { moment = g i; bus = a i; key = key; priority = b i; tid = c i; first = e i; last = f i; payload = h i; reading = reading_of (type_on plan key) (h i) }) ∷ [])
    ∙ ap (of_delivery plan extent key) (sym is)

outcome_bad : (timeout extent : ℕ) (r : KeyRecord) (past : List KeyRecord) (o : Outcome) → OutcomeIs crc_of timeout extent r past o → outcome_is_bad o ≡ is_bad crc_of timeout r past
outcome_bad timeout extent r past Ignored t = sym t.1
outcome_bad timeout extent r past Held t = sym t.1
outcome_bad timeout extent r past BadCrc t = sym t.1
outcome_bad timeout extent r past (Delivered bus priority tid first last moment payload) t = sym t.2

-- a frame of a session
module _ (tells : OutcomeTells) (plan : Plan) (p : Port) (f : FrameOf) (k : KeyedFrame) (log : List KeyedFrame) (answer : Answer) (t : AnswerIs crc_of plan.timeout p k log answer) (own : key_record f ≡ k.rec) where
  session_lines : answer_lines (type_on plan (key_of f.ident)) f answer ≡ of_session plan p (key_of f.ident) k log
  session_lines =
      let told = answer_lines (type_on plan (key_of f.ident)) f in
      let d = delivery_at crc_of plan.timeout k.rec (history k.key log) in
      let delivered = of_delivery plan p.extent (key_of f.ident) d in
      let refusal : List Line = cond k.rec.start (refused_line (key_of f.ident) k.rec ∷ []) [] in
      elim (cases_Bool (is_admitted p k log)) [
        | inl y ↦
            let s = t.session y in
            ap told s.1 ∙ (outcome_tells plan (key_of f.ident) p.extent d s.0 (tells crc_of plan.timeout p.extent k.rec (history k.key log) s.0 s.2) ∙ sym (cond-true (is_admitted p k log) delivered refusal y))
        | inr n ↦
            elim (cases_Bool k.rec.start) [
              | inl y ↦
                  ap told (t.refused n y)
                  ∙ (ap (λ (r : KeyRecord). refused_line (key_of f.ident) r ∷ []) own
                  ∙ (sym (cond-true k.rec.start (refused_line (key_of f.ident) k.rec ∷ []) [] y) ∙ sym (cond-false (is_admitted p k log) delivered refusal n)))
              | inr m ↦
                  ap told (t.ignored n m)
                  ∙ (sym (cond-false k.rec.start (refused_line (key_of f.ident) k.rec ∷ []) [] m) ∙ sym (cond-false (is_admitted p k log) delivered refusal n))
            ]
      ]

  session_bad : answer_is_bad answer ≡ (is_admitted p k log && is_bad crc_of plan.timeout k.rec (history k.key log))
  session_bad =
      let bad = is_bad crc_of plan.timeout k.rec (history k.key log) in
      elim (cases_Bool (is_admitted p k log)) [
        | inl y ↦
            let s = t.session y in
            ap answer_is_bad s.1 ∙ (outcome_bad plan.timeout p.extent k.rec (history k.key log) s.0 s.2 ∙ ap (λ b. b && bad) (sym y))
        | inr n ↦
            elim (cases_Bool k.rec.start) [
              | inl y ↦ ap answer_is_bad (t.refused n y) ∙ ap (λ b. b && bad) (sym n)
              | inr m ↦ ap answer_is_bad (t.ignored n m) ∙ ap (λ b. b && bad) (sym n)
            ]
      ]

module _ (tells : OutcomeTells) (plan : Plan) (f : FrameOf) (log : List KeyedFrame) (answer : Answer) where
  told : Answer → List Line
  told = answer_lines (type_on plan (key_of f.ident)) f

  lines_on : (o : Option Port) (m : Option KeyedFrame) → keyed f ≡ m → ToldAt plan.timeout o f m log answer → answer_lines (type_on plan (key_of f.ident)) f answer ≡ on_port plan f log o
  unfolding told
  lines_on None None e t = ap told t
  lines_on None (Some k) e t = ap told t
  lines_on (Some p) None e t = ap told t ∙ ap (of_source plan p f log) (sym e)
  lines_on (Some p) (Some k) e t =
      let own = rec_is (key_of f.ident).kind (key_of f.ident).port (key_of f.ident).source f k e in
      session_lines tells plan p f k log answer t own ∙ ap (of_source plan p f log) (sym e)

  bad_on : (o : Option Port) (m : Option KeyedFrame) → keyed f ≡ m → ToldAt plan.timeout o f m log answer → answer_is_bad answer ≡ bad_on_port plan.timeout f log o
  bad_on None None e t = ap answer_is_bad t
  bad_on None (Some k) e t = ap answer_is_bad t
  bad_on (Some p) None e t = ap answer_is_bad t ∙ ap (bad_of_source plan.timeout p log) (sym e)
  bad_on (Some p) (Some k) e t =
      let own = rec_is (key_of f.ident).kind (key_of f.ident).port (key_of f.ident).source f k e in
      session_bad tells plan p f k log answer t own ∙ ap (bad_of_source plan.timeout p log) (sym e)

-- the lines of a frame
pub told_lines : OutcomeTells → (plan : Plan) (ports : List Port) (f : FrameOf) (log : List KeyedFrame) (answer : Answer) → Told plan.timeout ports f log answer
    → answer_lines (type_on plan (key_of f.ident)) f answer ≡ on_port plan f log (port_on ports f)
told_lines tells plan ports f log answer t = lines_on tells plan f log answer (port_on ports f) (keyed f) refl t

-- and whether it ends a transfer with a bad CRC
pub told_bad : OutcomeTells → (plan : Plan) (ports : List Port) (f : FrameOf) (log : List KeyedFrame) (answer : Answer) → Told plan.timeout ports f log answer → answer_is_bad answer ≡ bad_on_port plan.timeout f log (port_on ports f)
told_bad tells plan ports f log answer t = bad_on tells plan f log answer (port_on ports f) (keyed f) refl t
