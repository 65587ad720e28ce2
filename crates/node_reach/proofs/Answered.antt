-- What a table answers to a frame tells the transfer that ends there.
use Rattle.std.proofs.Common.{◌≡◌, ◌∙◌, ℕ, List, Option, Some, None, refl, sym, ap, inl, inr}
use Rattle.std.proofs.lemmas.Bool.{cond-true, cond-false, cases_Bool}
use Rattle.tail_frame.specs.Frames.{FrameOf}
use Rattle.transfer_crc.specs.Crc.{crc_of}
use Rattle.rx_session.specs.Session.{Outcome, Ignored, Held, BadCrc, Delivered}
use Rattle.rx_table.specs.Keys.{SessionKey, KeyedFrame, history}
use Rattle.rx_table.specs.Laws.{OutcomeTells, Tells}
use Rattle.rx_table.specs.Ports.{Port, Answer, is_admitted, AnswerIs}
use Rattle.rx_table.specs.Received.{Delivery}
use Rattle.rx_table.specs.Steps.{delivery_at}
use Rattle.rx_table.specs.Table.{keyed, port_on, Told, ToldAt}
use Rattle.node_reach.specs.Told.{of_outcome, of_answer, answered}
use Rattle.node_reach.specs.Transfers.{of_delivery, on_port}

-- an outcome tells the transfer of the delivery that it tells
outcome_tells : (key : SessionKey) (extent : ℕ) (d : Option Delivery) (o : Outcome) → Tells d extent o → of_outcome key o ≡ of_delivery extent key d
outcome_tells key extent d Ignored t = ap (of_delivery extent key) (sym t)
outcome_tells key extent d Held t = ap (of_delivery extent key) (sym t)
outcome_tells key extent d BadCrc t = ap (of_delivery extent key) (sym t)
outcome_tells key extent d (Delivered bus priority tid first last moment payload) (delivery, is, a, b, c, e, f, g, h) =
    (λ i. Some (record { key = key; tid = c i; moment = g i; payload = h i })) ∙ ap (of_delivery extent key) (sym is)

module _ (tells : OutcomeTells) (timeout : ℕ) (log : List KeyedFrame) (answer : Answer) where
  of_session : (p : Port) (k : KeyedFrame) → AnswerIs crc_of timeout p k log answer → of_answer k.key answer ≡ on_port timeout log (Some p) (Some k)
  of_session p k t =
      let d = delivery_at crc_of timeout k.rec (history k.key log) in
      let delivered = of_delivery p.extent k.key d in
      elim (cases_Bool (is_admitted p k log)) [
        | inl y ↦
            let s = t.session y in
            ap (of_answer k.key) s.1
            ∙ (outcome_tells k.key p.extent d s.0 (tells crc_of timeout p.extent k.rec (history k.key log) s.0 s.2)
            ∙ sym (cond-true (is_admitted p k log) delivered None y))
        | inr n ↦
            elim (cases_Bool k.rec.start) [
              | inl y ↦ ap (of_answer k.key) (t.refused n y) ∙ sym (cond-false (is_admitted p k log) delivered None n)
              | inr m ↦ ap (of_answer k.key) (t.ignored n m) ∙ sym (cond-false (is_admitted p k log) delivered None n)
            ]
      ]

  told_on : (f : FrameOf) (o : Option Port) (m : Option KeyedFrame) → ToldAt timeout o f m log answer → answered m answer ≡ on_port timeout log o m
  told_on f None None t = refl
  told_on f None (Some k) t = ap (of_answer k.key) t
  told_on f (Some p) None t = refl
  told_on f (Some p) (Some k) t = of_session p k t

  pub told_transfer : (ports : List Port) (f : FrameOf) → Told timeout ports f log answer → answered (keyed f) answer ≡ on_port timeout log (port_on ports f) (keyed f)
  told_transfer ports f t = told_on f (port_on ports f) (keyed f) t
