-- Each line on a transfer has the reading of its payload.
use Rattle.std.proofs.Common.{ℕ, cond, List, [], ◌∷◌, Option, Some, None, refl}
use Rattle.std.specs.Prelude.{All}
use Rattle.std.proofs.lemmas.Bool.{cond_both}
use Rattle.std.proofs.lemmas.List.Elements.{All-nil, All-cons, All-append}
use Rattle.can_id.specs.Identifiers.{key_of}
use Rattle.can_id.specs.declared.key.Key.{Key}
use Rattle.tail_frame.specs.Frames.{FrameOf}
use Rattle.transfer_crc.specs.Crc.{crc_of}
use Rattle.rx_table.specs.Heard.{frame_for, frames}
use Rattle.rx_table.specs.Keys.{KeyedFrame, history}
use Rattle.rx_table.specs.Ports.{Port, is_admitted}
use Rattle.rx_table.specs.Received.{Delivery}
use Rattle.rx_table.specs.Steps.{delivery_at}
use Rattle.rx_table.specs.Table.{keyed, port_on}
use Rattle.node_plan.specs.declared.plan.Plan.{Plan}
use Rattle.node_core.specs.Heard.{ports_of}
use Rattle.node_core.specs.Received.{rx_line, of_delivery, anonymous_line, refused_line, of_session, of_source, on_port, of_frame}
use Rattle.node_core.specs.Steps.{Step, Heard, Tick, records, kept, received_at, node_lines, lines, lines_at, emptying}
use Rattle.report_lines.specs.declared.line.Line.{Line}
use Rattle.session_lines.specs.Readings.{HasReading, LinesHaveReadings}
use Rattle.session_lines.proofs.Sending.{sending_reads, full_lines, tx_lines, emptying_sends}

module _ (plan : Plan) where
  abbrev Have : List Line → Type 0
  Have ls = All (HasReading plan) ls

  one : (line : Line) → HasReading plan line → Have (line ∷ [])
  one line h = All-cons (HasReading plan) line [] h (All-nil (HasReading plan))

  delivered : (extent : ℕ) (key : Key) (o : Option Delivery) → Have (of_delivery plan extent key o)
  delivered extent key None = All-nil (HasReading plan)
  delivered extent key (Some d) = one (rx_line plan extent key d) refl

  in_session : (p : Port) (key : Key) (k : KeyedFrame) (log : List KeyedFrame) → Have (of_session plan p key k log)
  in_session p key k log =
      let o = delivery_at crc_of plan.timeout k.rec (history k.key log) in
      cond_both (is_admitted p k log) (of_delivery plan p.extent key o) (cond k.rec.start (refused_line key k.rec ∷ []) []) Have
      (λ _. delivered p.extent key o)
      (λ _. cond_both k.rec.start (refused_line key k.rec ∷ []) [] Have (λ _. one (refused_line key k.rec) tt) (λ _. All-nil (HasReading plan)))

  from_source : (p : Port) (f : FrameOf) (log : List KeyedFrame) (o : Option KeyedFrame) → Have (of_source plan p f log o)
  from_source p f log None = one (anonymous_line plan p.extent f) refl
  from_source p f log (Some k) = in_session p (key_of f.ident) k log

  at_port : (f : FrameOf) (log : List KeyedFrame) (o : Option Port) → Have (on_port plan f log o)
  at_port f log None = All-nil (HasReading plan)
  at_port f log (Some p) = from_source p f log (keyed f)

  from_frame : (log : List KeyedFrame) (o : Option FrameOf) → Have (of_frame plan log o)
  from_frame log None = All-nil (HasReading plan)
  from_frame log (Some f) = at_port f log (port_on (ports_of plan) f)

  -- what is received at a step, and the lines on what is sent behind it
  at_step : (step : Step) (past : List Step) → Have (received_at plan step past) → Have (lines_at plan step past)
  at_step step past h =
      let full = sending_reads plan _ (full_lines plan step past) in
      let tx = sending_reads plan _ (tx_lines plan step past) in
      All-append (HasReading plan) (node_lines plan step past (kept plan past)) _ (All-append (HasReading plan) (received_at plan step past) _ h full) tx

  all : (steps : List Step) → Have (lines plan steps)
  all [] = All-nil (HasReading plan)
  all (Heard rec file ∷ past) =
      All-append (HasReading plan) (lines plan past) (lines_at plan (Heard rec file) past) (all past)
      (at_step (Heard rec file) past (from_frame (frames plan.node (records past)) (frame_for plan.node rec)))
  all (Tick number moment ∷ past) =
      All-append (HasReading plan) (lines plan past) (lines_at plan (Tick number moment) past) (all past)
      (at_step (Tick number moment) past (All-nil (HasReading plan)))

pub lines_have_readings : LinesHaveReadings
lines_have_readings plan steps =
    All-append (HasReading plan) (lines plan steps) (emptying plan steps) (all plan steps) (sending_reads plan (emptying plan steps) (emptying_sends plan steps))
