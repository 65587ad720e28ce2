-- The lines on what a table tells of a frame.
use Rattle.std.specs.Prelude.{Bool, true, false, List, [], ◌∷◌, Option}
use Rattle.can_id.specs.Identifiers.{key_of}
use Rattle.can_id.specs.declared.key.Key.{Key}
use Rattle.tail_frame.specs.Frames.{FrameOf, key_record}
use Rattle.dsdl_types.specs.Schemas.{Sch}
use Rattle.rx_session.specs.Session.{Outcome, Ignored, Held, BadCrc, Delivered}
use Rattle.rx_table.specs.Ports.{Answer, NoPort, NoSession, OfSession, Anonymous}
use Rattle.report_lines.specs.declared.line.Line.{Line}
use Rattle.report_lines.specs.declared.line.Line.TheVariants.{Rx}
use Rattle.report_lines.specs.Readings.{reading_of}
use Rattle.node_core.specs.Steps.{refused_line}

-- on a port of this type
abbrev pub outcome_lines : Option Sch → Key → Outcome → List Line
outcome_lines type key Ignored = []
outcome_lines type key Held = []
outcome_lines type key BadCrc = []
outcome_lines type key (Delivered bus priority tid first last moment payload) =
    Rx (record {
      moment = moment;
      bus = bus;
      key = key;
      priority = priority;
      tid = tid;
      first = first;
      last = last;
      payload = payload;
      reading = reading_of type payload;
    }) ∷ []

abbrev pub answer_lines : Option Sch → FrameOf → Answer → List Line
answer_lines type f NoPort = []
answer_lines type f NoSession = refused_line (key_of f.ident) (key_record f) ∷ []
answer_lines type f (OfSession outcome) = outcome_lines type (key_of f.ident) outcome
answer_lines type f (Anonymous outcome) = outcome_lines type (key_of f.ident) outcome

abbrev pub outcome_is_bad : Outcome → Bool
outcome_is_bad Ignored = false
outcome_is_bad Held = false
outcome_is_bad BadCrc = true
outcome_is_bad (Delivered bus priority tid first last moment payload) = false

-- whether the frame ends a transfer whose bytes don't fit their CRC
abbrev pub answer_is_bad : Answer → Bool
answer_is_bad NoPort = false
answer_is_bad NoSession = false
answer_is_bad (OfSession outcome) = outcome_is_bad outcome
answer_is_bad (Anonymous outcome) = false
