-- What the lines of a report say of payloads.
use Rattle.std.specs.Prelude.{◌≡◌, List, All, ⊤}
use Rattle.node_plan.specs.declared.plan.Plan.{Plan}
use Rattle.report_lines.specs.declared.line.Line.{Line}
use Rattle.report_lines.specs.declared.line.Line.TheVariants.{Rx, NoSession, Tx, Full}
use Rattle.report_lines.specs.Readings.{reading_of}
use Rattle.node_core.specs.Steps.{Step, all_lines}
use Rattle.node_core.specs.Types.{type_on}

-- a line on a transfer has the reading of its payload by the type of its port
abbrev pub HasReading : Plan → Line → Type 0
HasReading plan (Rx rx) = rx.reading ≡ reading_of (type_on plan rx.key) rx.payload
HasReading plan (NoSession refused) = ⊤
HasReading plan (Tx tx) = ⊤
HasReading plan (Full full) = ⊤

-- each line of a log does, those behind its last step too
abbrev pub LinesHaveReadings : Type 0
LinesHaveReadings = (plan : Plan) (steps : List Step) → All (HasReading plan) (all_lines plan steps)
