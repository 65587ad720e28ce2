-- The forms in which a report is written: as text, or as JSON lines.
use Rattle.std.specs.Prelude.{◌≡◌, ◌++◌, ◌∷◌, ℕ, List, [], Option}
use Rattle.can_id.specs.declared.key.Key.{Key}
use Rattle.dsdl_types.specs.Schemas.{Sch}
use Rattle.value_json.specs.Pieces.{Spells as SpellsPieces}
use Rattle.node_plan.specs.declared.plan.BusPlan.{BusPlan}
use Rattle.report_lines.specs.Lent.{HasType, owned}
use Rattle.report_lines.specs.declared.line.Line.{Line}
use Rattle.report_lines.specs.declared.line_ref.LineRef.{LineRef}
use Rattle.report_lines.specs.declared.numbers.Numbers.{Numbers}
use Rattle.text_lines.specs.Text.{end_text, text}
use Rattle.json_lines.specs.Text.{end_json, json_text, leaving_json}
pub use Rattle.node_run.specs.declared.form.Form.{Form}
pub use Rattle.node_run.specs.declared.form.Form.TheVariants.{Text, Json}

-- the form of a report, and the buses whose names its lines have
pub record Style : Type 0 where
  pub form : Form
  pub buses : List BusPlan

abbrev pub in_style : Form → List BusPlan → Style
in_style form buses = record { form = form; buses = buses }

-- the types of ports, by their key; bytes have none
abbrev pub Types : Type 0
Types = Key → Option Sch

-- A text is one of these lines, in order. By which number a float is written isn't fixed in JSON.
abbrev pub Spells : Form → Types → List BusPlan → List Line → List ℕ → Type 0
Spells Text types buses lines said = said ≡ text buses lines
Spells Json types buses lines said = SpellsPieces (json_text types buses lines) said

-- a text of these lines stands behind another
pub record Adds (s : Style) (types : Types) (lines : List Line)
    (before after : List ℕ) : Type 0 where
  pub said : List ℕ
  pub is : after ≡ before ++ said
  pub spelled : Spells s.form types s.buses lines said

-- a text of a line that is lent stands behind another, if these types give its port the one that
-- the line has
abbrev pub Puts : Style → LineRef → List ℕ → List ℕ → Type 0
Puts s line before after =
    (types : Types) → HasType types line → Adds s types (owned line ∷ []) before after

-- the text of frames that left
abbrev pub leaving_in : Form → List BusPlan → List Line → List ℕ
leaving_in Text buses lines = text buses lines
leaving_in Json buses lines = leaving_json buses lines

abbrev pub leaving_text : Style → List Line → List ℕ
leaving_text s lines = leaving_in s.form s.buses lines

-- the last line of a report that was read to its end
abbrev pub last_line : Form → Numbers → List ℕ
last_line Text numbers = end_text numbers
last_line Json numbers = end_json numbers
