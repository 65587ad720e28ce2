-- What a node stands for whose frames are explained.
use Rattle.std.specs.Prelude.{◌≡◌, List, ◌∷◌, length}
use Rattle.line_text.specs.declared.text_buffer.TextBuffer.{TextBuffer}
use Rattle.line_text.specs.Buffer.{Puts}
use Rattle.node_core.specs.Stands.{Stands}
use Rattle.node_plan.specs.declared.plan.Plan.{Plan}
use Rattle.node_core.specs.Heard.{ports_of}
use Rattle.tail_frame.specs.declared.logged.Record.{Record}
use Rattle.log_explain.specs.Explained.{listens_by, names_of, step_text}
use Rattle.log_explain.specs.Lines.{lines}
use Rattle.log_explain.specs.Slots.{AreCounted}
use Rattle.log_explain.specs.declared.explaining.Explaining.{Explaining}

-- the node of a plan heard these records, and their lines are counted
pub record Explains (plan : Plan) (now : Explaining) (past : List Record) : Type 0 where
  pub plan_is : now.node.plan ≡ plan
  pub names : now.writer.buses.names ≡ names_of plan
  pub stands : Stands now.node past
  pub counted : AreCounted (ports_of plan) now.tallies.by_slot.items (lines (listens_by plan) past)
  pub records : now.records ≡ length past

-- it heard one record more, and put what is said on that
abbrev pub Hears : Record → Explaining → Explaining → TextBuffer → TextBuffer → Type 0
Hears rec old new before after =
    (plan : Plan) (past : List Record) → Explains plan old past
    → Explains plan new (rec ∷ past) × Puts (step_text plan rec past) before after
