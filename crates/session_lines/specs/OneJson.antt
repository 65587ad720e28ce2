-- Which lines have a JSON text of their own.
use Rattle.std.specs.Prelude.{◌≡◌, List, ℕ}
use Rattle.std.specs.Option.{ForSome}
use Rattle.can_id.specs.declared.key.Key.{Key}
use Rattle.dsdl_types.specs.Names.{HasNames}
use Rattle.json_lines.specs.Text.{json_text}
use Rattle.node_core.specs.Types.{type_on}
use Rattle.node_plan.specs.declared.plan.Plan.{Plan}
use Rattle.report_lines.specs.declared.line.Line.{Line}
use Rattle.session_lines.specs.OneReport.{AreLinesOn, AreNamed}
use Rattle.value_json.specs.Pieces.{Spells}

-- the fields of the types of a plan's ports have names of the grammar
abbrev pub HaveFieldNames : Plan → Type 0
HaveFieldNames plan = (key : Key) → ForSome (type_on plan key) HasNames

-- No two lists of lines have a JSON text in common, whichever numbers their floats are written by.
abbrev pub JsonTellsLines : Type 0
JsonTellsLines =
    (plan : Plan) (a b : List Line) (text : List ℕ) → AreNamed plan.buses → HaveFieldNames plan
    → AreLinesOn plan a → AreLinesOn plan b
    → Spells (json_text (type_on plan) plan.buses a) text
    → Spells (json_text (type_on plan) plan.buses b) text → a ≡ b
