-- Lines whose payload is lent.
use Rattle.std.specs.Prelude.{◌≡◌, List, [], ◌∷◌, Option, Some, None, option_map, ⊤}
use Rattle.can_id.specs.declared.key.Key.{Key}
use Rattle.dsdl_types.specs.Schemas.{Sch}
use Rattle.dsdl_types.specs.Views.{sch}
use Rattle.report_lines.specs.Readings.{reading_of}
use Rattle.report_lines.specs.declared.line.Line.{Line}
use Rattle.report_lines.specs.declared.line.Line.TheVariants.{Rx, NoSession as Refusal, Tx, Full}
use Rattle.report_lines.specs.declared.line.Reading.{Reading}
use Rattle.report_lines.specs.declared.line_ref.LineRef.{LineRef}
use Rattle.report_lines.specs.declared.line_ref.LineRef.TheVariants as lent
use Rattle.report_lines.specs.declared.line_ref.RxRef.{RxRef}

-- the type of a transfer's port; bytes have none
abbrev pub lent_type : RxRef → Option Sch
lent_type rx = option_map (λ shape. sch shape.now.schema) rx.port_type

-- what the payload of a transfer says
abbrev pub reading_in : RxRef → Reading
reading_in rx = reading_of (lent_type rx) rx.payload.now

-- a line on a transfer has the type that these give its port
abbrev pub HasType : (Key → Option Sch) → LineRef → Type 0
HasType types (lent.Rx rx) = lent_type rx ≡ types rx.key
HasType types line = ⊤

-- a line with its payload, and what that says
abbrev pub owned : LineRef → Line
owned (lent.Rx rx) = Rx (record {
  moment = rx.moment;
  bus = rx.bus;
  key = rx.key;
  priority = rx.priority;
  tid = rx.tid;
  reading = reading_in rx;
  first = rx.first;
  last = rx.last;
  payload = rx.payload.now;
})
owned (lent.NoSession refused) = Refusal refused
owned (lent.Tx tx) = Tx (record { moment = tx.moment; bus = tx.bus; ident = tx.ident; bytes = tx.bytes.now })
owned (lent.Full full) = Full full

-- the line that is told, if there is one
abbrev pub told_lines : Option LineRef → List Line
told_lines None = []
told_lines (Some line) = owned line ∷ []
