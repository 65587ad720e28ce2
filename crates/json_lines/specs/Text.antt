-- The JSON text of a report (RFC 8259): an object a line, without blanks.
use Rattle.std.specs.Prelude.{ℕ, List, [], ◌∷◌, ◌++◌, Option, Some, None, codes, decimal}
use Rattle.hex.specs.Hex.{encode_upper}
use Rattle.can_id.specs.declared.key.Key.{Key}
use Rattle.can_id.specs.declared.key.Kind.{Kind}
use Rattle.dsdl_types.specs.Schemas.{Sch}
use Rattle.dsdl_types.specs.Views.{val}
use Rattle.dsdl_types.specs.declared.read_why.ReadWhy.{ReadWhy}
use Rattle.dsdl_types.specs.declared.read_why.ReadWhy.TheVariants as why
use Rattle.line_text.specs.Text.{ident_text, moment_text}
use Rattle.node_plan.specs.declared.plan.BusPlan.{BusPlan}
use Rattle.value_text.specs.Unreadable.{read_why_number}
use Rattle.value_json.specs.Json.{json_of}
use Rattle.value_json.specs.Pieces.{Exact, Piece, exact}
use Rattle.value_json.specs.Words.{name_text, quoted}
use Rattle.can_id.specs.Kinds.{kind_text}
use Rattle.node_plan.specs.Buses.{bus_text}
use Rattle.report_lines.specs.declared.line.Line.{Line}
use Rattle.report_lines.specs.declared.line.Line.TheVariants.{Rx, NoSession, Tx, Full}
use Rattle.report_lines.specs.declared.line.Rx.{Rx as Received}
use Rattle.report_lines.specs.declared.line.Tx.{Tx as Sent}
use Rattle.report_lines.specs.declared.line.Reading.{Reading}
use Rattle.report_lines.specs.declared.line.Reading.TheVariants.{Raw, Good, Bad}
use Rattle.report_lines.specs.declared.numbers.Numbers.{Numbers}

-- the first member of a line: what it tells
abbrev pub begin : List ℕ → List ℕ
begin word = codes "{\"line\":" ++ quoted word

-- the end of a line
abbrev pub line_end : List ℕ
line_end = codes "}\n"

-- a member behind others
abbrev pub more : List ℕ → List ℕ → List ℕ
more name text = 44 ∷ (name_text name ++ text)

-- the sender's node-ID; an anonymous message has none
abbrev pub source_json : Option ℕ → List ℕ
source_json None = codes "null"
source_json (Some source) = decimal source

-- when, in seconds, and on which bus
abbrev pub place_text : List BusPlan → ℕ → ℕ → List ℕ
place_text buses moment bus = moment_text moment ++ more (codes "bus") (quoted (bus_text buses bus))

abbrev pub place_members : List BusPlan → ℕ → ℕ → List ℕ
place_members buses moment bus = more (codes "time") (place_text buses moment bus)

-- what is in front of a port: a kind
abbrev pub kind_front : Kind → List ℕ
kind_front kind = more (codes "kind") (quoted (kind_text kind)) ++ more (codes "port") []

-- at which port and from whom
abbrev pub key_members : Key → List ℕ
key_members key =
    kind_front key.kind ++ (decimal key.port ++ more (codes "source") (source_json key.source))

-- priority, transfer-ID, and the lines of the first and the last frame
abbrev pub transfer_members : ℕ → ℕ → ℕ → ℕ → List ℕ
transfer_members priority tid first last =
    more (codes "priority") (decimal priority) ++ (more (codes "transfer_id") (decimal tid)
    ++ (more (codes "first") (decimal first) ++ more (codes "last") (decimal last)))

-- two hex digits for each byte of a payload, letters in upper case
abbrev pub payload_member : List ℕ → List ℕ
payload_member payload = more (codes "payload") (quoted (encode_upper payload))

-- a transfer up to what its payload says
abbrev pub front_text : List BusPlan → Received → List ℕ
front_text buses rx =
    begin (codes "rx") ++ (place_members buses rx.moment rx.bus ++ (key_members rx.key
    ++ (transfer_members rx.priority rx.tid rx.first rx.last ++ payload_member rx.payload)))

-- the name of a cause
abbrev pub why_name : ReadWhy → List ℕ
why_name (why.BadTag n) = codes "BadTag"
why_name (why.BadLength n) = codes "BadLength"
why_name (why.BadDelimiter n) = codes "BadDelimiter"

-- why a payload can't be read: the cause, the number that was read, and the path to the part that
-- is refused
abbrev pub error_text : List ℕ → ReadWhy → List ℕ
error_text path why =
    codes "{\"why\":" ++ (quoted (why_name why)
    ++ (more (codes "number") (decimal (read_why_number why))
    ++ (more (codes "at") (quoted path) ++ codes "}")))

-- What a payload says, where its port has a type: its value, or why it can't be read.
abbrev pub reading_json : Option Sch → Reading → List Piece
reading_json None reading = []
reading_json (Some s) Raw = []
reading_json (Some s) (Good value text) =
    Exact (44 ∷ name_text (codes "value")) ∷ json_of s (val value)
reading_json (Some s) (Bad path why) = exact (more (codes "error") (error_text path why))

-- a frame that left
abbrev pub tx_json : List BusPlan → Sent → List ℕ
tx_json buses tx =
    begin (codes "tx") ++ (place_members buses tx.moment tx.bus
    ++ (more (codes "id") (quoted (ident_text tx.ident))
    ++ (more (codes "data") (quoted (encode_upper tx.bytes)) ++ line_end)))

-- a line, of a port of this type
abbrev pub line_json : Option Sch → List BusPlan → Line → List Piece
line_json type buses (Rx rx) =
    Exact (front_text buses rx) ∷ (reading_json type rx.reading ++ exact line_end)
line_json type buses (NoSession refused) =
    exact (begin (codes "nosession") ++ (place_members buses refused.moment refused.bus
    ++ (key_members refused.key ++ (more (codes "at") (decimal refused.line) ++ line_end))))
line_json type buses (Tx tx) = exact (tx_json buses tx)
line_json type buses (Full full) =
    exact (begin (codes "full") ++ (place_members buses full.moment full.bus
    ++ (more (codes "port") (decimal full.port)
    ++ (more (codes "needed") (decimal full.needed)
    ++ (more (codes "free") (decimal full.free) ++ line_end)))))

-- the type of a line's port, by those of the ports
abbrev pub type_for : (Key → Option Sch) → Line → Option Sch
type_for types (Rx rx) = types rx.key
type_for types _ = None

-- lines, in order
abbrev pub json_text : (Key → Option Sch) → List BusPlan → List Line → List Piece
json_text types buses [] = []
json_text types buses (line ∷ lines) =
    line_json (type_for types line) buses line ++ json_text types buses lines

-- frames that left, in order; of other lines it says nothing
abbrev pub leaving_json : List BusPlan → List Line → List ℕ
leaving_json buses [] = []
leaving_json buses (Tx tx ∷ lines) = tx_json buses tx ++ leaving_json buses lines
leaving_json buses (_ ∷ lines) = leaving_json buses lines

-- how much was received, sent and held
abbrev pub received_members : Numbers → List ℕ
received_members n =
    more (codes "records") (decimal n.records) ++ (more (codes "delivered") (decimal n.delivered)
    ++ (more (codes "badcrc") (decimal n.badcrc) ++ more (codes "nosession") (decimal n.nosession)))

abbrev pub node_members : Numbers → List ℕ
node_members n =
    more (codes "sent") (decimal n.sent)
    ++ (more (codes "held") (decimal n.held) ++ more (codes "bound") (decimal n.bound))

-- the last line of a report that was read to its end
abbrev pub end_json : Numbers → List ℕ
end_json n = begin (codes "end") ++ (received_members n ++ (node_members n ++ line_end))
