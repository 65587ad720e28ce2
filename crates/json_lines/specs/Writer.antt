-- What a writer of JSON lines writes.
use Rattle.std.specs.Prelude.{ℕ, List, ◌∷◌, ◌++◌, Option, None, codes, option_map}
use Rattle.dsdl_types.specs.Schemas.{Sch}
use Rattle.dsdl_types.specs.Views.{sch}
use Rattle.line_text.specs.declared.text_buffer.TextBuffer.{TextBuffer}
use Rattle.node_plan.specs.declared.plan.BusPlan.{BusPlan}
use Rattle.dsdl_types.specs.Values.{Val}
use Rattle.dsdl_types.specs.declared.read_why.ReadWhy.{ReadWhy}
use Rattle.value_json.specs.Json.{json_of}
use Rattle.value_json.specs.Pieces.{Exact, Piece, Puts, exact}
use Rattle.value_json.specs.Words.{name_text}
use Rattle.report_lines.specs.Lent.{owned}
use Rattle.report_lines.specs.declared.line_ref.LineRef.{LineRef}
use Rattle.report_lines.specs.declared.line_ref.LineRef.TheVariants as lent
use Rattle.report_lines.specs.declared.line_ref.RxRef.{RxRef}
use Rattle.json_lines.specs.Text.{begin, error_text, key_members, line_end, line_json, more}
use Rattle.json_lines.specs.Text.{payload_member, place_members, transfer_members}
use Rattle.json_lines.specs.declared.writer.JsonWriter.{JsonWriter}

-- the buses whose names its lines have
unfoldable pub writes_for : JsonWriter → List BusPlan
writes_for writer = writer.buses

-- the type of a transfer's port, and that of a line's
abbrev pub port_type : RxRef → Option Sch
port_type rx = option_map (λ shape. sch shape.now.schema) rx.port_type

abbrev pub type_in : LineRef → Option Sch
type_in (lent.Rx rx) = port_type rx
type_in _ = None

-- a transfer up to what its payload says
abbrev pub front_of : List BusPlan → RxRef → List ℕ
front_of buses rx =
    begin (codes "rx") ++ (place_members buses rx.moment rx.bus ++ (key_members rx.key
    ++ (transfer_members rx.priority rx.tid rx.first rx.last ++ payload_member rx.payload.now)))

-- the line of a transfer whose payload is read as a value
abbrev pub valued_json : List BusPlan → RxRef → Sch → Val → List Piece
valued_json buses rx s v =
    Exact (front_of buses rx)
    ∷ (Exact (44 ∷ name_text (codes "value")) ∷ (json_of s v ++ exact line_end))

-- the line of a transfer whose payload can't be read
abbrev pub refused_text : List BusPlan → RxRef → List ℕ → ReadWhy → List ℕ
refused_text buses rx path why =
    front_of buses rx ++ (more (codes "error") (error_text path why) ++ line_end)

-- it puts the text of a line behind a text
abbrev pub Writes : JsonWriter → LineRef → TextBuffer → TextBuffer → Type 0
Writes writer line old new =
    Puts (line_json (type_in line) (writes_for writer) (owned line)) old new
