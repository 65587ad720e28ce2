-- What `survey` says of a log. Records and frames are lists with the newest first; `past` is what
-- came before.
use Rattle.std.specs.Prelude.{ℕ, List, [], ◌++◌, length}
use Rattle.log_loop.specs.Voice.{Voice, plain_voice}
use Rattle.tail_frame.specs.declared.logged.Record.{Record}
use Rattle.bus_survey.specs.Buses.{discarded, bus_counts}
use Rattle.bus_survey.specs.Counts.{table}
use Rattle.bus_survey.specs.Flows.{frames}
use Rattle.bus_survey.specs.Lines.{bus_lines, flow_lines, end_line}
use Rattle.bus_survey.specs.Sources.{nodes}

-- the last words behind these records, on buses with these names
abbrev pub last_text : List (List ℕ) → List Record → List ℕ
last_text names past =
    bus_lines names (bus_counts past)
    ++ flow_lines names (table (frames past))
    ++ end_line (length past) (discarded past) (nodes (frames past))

-- nothing is said before the end of a log
abbrev pub step_text : Record → List Record → List ℕ
step_text rec past = []

-- what is said over a log of buses with these names
abbrev pub survey_voice : List (List ℕ) → Voice Record
survey_voice names = plain_voice step_text (last_text names)
