-- What `explain` says of a log. Records are a list with the newest first; `past` is what came
-- before.
use Rattle.std.specs.Prelude.{ℕ, List, ◌++◌, length, map}
use Rattle.log_loop.specs.Voice.{Voice, plain_voice}
use Rattle.node_core.specs.Heard.{ports_of}
use Rattle.node_plan.specs.declared.plan.BusPlan.{BusPlan}
use Rattle.node_plan.specs.declared.plan.Plan.{Plan}
use Rattle.log_explain.specs.Reasons.{Listens}
use Rattle.tail_frame.specs.declared.logged.Record.{Record}
use Rattle.log_explain.specs.Lines.{line_on, sessions}
use Rattle.log_explain.specs.Text.{end_text, frame_text, sessions_text}

-- what the node of a plan listens with
abbrev pub listens_by : Plan → Listens
listens_by plan = record { own = plan.node; timeout = plan.timeout; ports = ports_of plan }

-- the names of a plan's buses
abbrev pub names_of : Plan → List (List ℕ)
names_of plan = map (λ (bus : BusPlan). bus.name) plan.buses

-- what is said on a record
abbrev pub step_text : Plan → Record → List Record → List ℕ
step_text plan rec past = frame_text (names_of plan) (line_on (listens_by plan) rec past)

-- the last words behind these records
abbrev pub last_text : Plan → List Record → List ℕ
last_text plan past =
    sessions_text (names_of plan) (sessions (listens_by plan) past)
    ++ end_text (length past) (length (sessions (listens_by plan) past))

-- what is said over a log
abbrev pub explain_voice : Plan → Voice Record
explain_voice plan = plain_voice (step_text plan) (last_text plan)
