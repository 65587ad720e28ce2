-- The text of a report.
use Rattle.std.specs.Prelude.{ℕ, List, [], ◌∷◌, ◌++◌, Option, Some, None, codes, decimal}
use Rattle.hex.specs.Hex.{encode_upper}
pub use Rattle.line_text.specs.Text.{ident_text, moment_text, line_of, spaced}
use Rattle.line_text.specs.TxLine.{tx_words}
use Rattle.can_id.specs.declared.key.Key.{Key}
use Rattle.can_id.specs.declared.key.Kind.{Kind}
use Rattle.can_id.specs.declared.key.Kind.TheVariants.{Message}
pub use Rattle.can_id.specs.Kinds.{kind_text}
use Rattle.value_text.specs.Unreadable.{unreadable_text}
use Rattle.node_plan.specs.declared.plan.BusPlan.{BusPlan}
pub use Rattle.node_plan.specs.Buses.{bus_text, name_of}
use Rattle.report_lines.specs.declared.line.Line.{Line}
use Rattle.report_lines.specs.declared.line.Line.TheVariants.{Rx, NoSession, Tx, Full}
use Rattle.report_lines.specs.declared.line.Rx.{Rx as Received}
use Rattle.report_lines.specs.declared.line.Reading.{Reading}
use Rattle.report_lines.specs.declared.line.Reading.TheVariants.{Raw, Good, Bad}
use Rattle.report_lines.specs.declared.numbers.Numbers.{Numbers}

-- the sender's node-ID; an anonymous message has none
abbrev pub source_text : Option ℕ → List ℕ
source_text None = codes "-"
source_text (Some source) = decimal source

-- two hex digits for each byte, letters in upper case
abbrev pub payload_text : List ℕ → List ℕ
payload_text [] = codes "-"
payload_text (b ∷ bs) = encode_upper (b ∷ bs)

-- the text of a value, or a mark and why the payload can't be read; bytes are `raw`
abbrev pub reading_text : Reading → List ℕ
reading_text Raw = codes "raw"
reading_text (Good value text) = text
reading_text (Bad path why) = codes "!" ++ unreadable_text path why

-- the name of a bus, a kind and a port, with a space in front and one behind each
abbrev pub port_words : List BusPlan → ℕ → Kind → ℕ → List ℕ
port_words buses bus kind port = 32 ∷ spaced (bus_text buses bus ∷ kind_text kind ∷ decimal port ∷ [])

-- those of a message
abbrev pub message_words : List BusPlan → ℕ → ℕ → List ℕ
message_words buses bus port = port_words buses bus Message port

-- on which bus, at which port and from whom
abbrev pub key_words : List BusPlan → ℕ → Key → List (List ℕ)
key_words buses bus key = bus_text buses bus ∷ kind_text key.kind ∷ decimal key.port ∷ source_text key.source ∷ []

-- when, on which bus, at which port and from whom
abbrev pub place_words : List BusPlan → ℕ → ℕ → Key → List (List ℕ)
place_words buses moment bus key = moment_text moment ∷ key_words buses bus key

-- priority, transfer-ID, and the lines of the first and the last frame
abbrev pub transfer_words : ℕ → ℕ → ℕ → ℕ → List (List ℕ)
transfer_words priority tid first last = decimal priority ∷ decimal tid ∷ decimal first ∷ decimal last ∷ []

-- the words before the payload of a transfer
abbrev pub front_words : List BusPlan → Received → List (List ℕ)
front_words buses rx =
    (codes "rx" ∷ place_words buses rx.moment rx.bus rx.key) ++ transfer_words rx.priority rx.tid rx.first rx.last

abbrev pub words_of : List BusPlan → Line → List (List ℕ)
words_of buses (Rx rx) = front_words buses rx ++ (payload_text rx.payload ∷ reading_text rx.reading ∷ [])
words_of buses (NoSession refused) =
    (codes "nosession" ∷ place_words buses refused.moment refused.bus refused.key) ++ (decimal refused.line ∷ [])
words_of buses (Tx tx) = tx_words tx.moment (bus_text buses tx.bus) tx.ident tx.bytes
words_of buses (Full full) =
    codes "full" ∷ moment_text full.moment ∷ bus_text buses full.bus ∷ decimal full.port
    ∷ decimal full.needed ∷ decimal full.free ∷ []

-- the text of a line
abbrev pub line_text : List BusPlan → Line → List ℕ
line_text buses line = line_of (words_of buses line)

-- the text of lines, in order
abbrev pub text : List BusPlan → List Line → List ℕ
text buses [] = []
text buses (line ∷ lines) = line_text buses line ++ text buses lines

-- how much was received
abbrev pub received_words : Numbers → List (List ℕ)
received_words n =
    codes "records" ∷ decimal n.records ∷ codes "delivered" ∷ decimal n.delivered
    ∷ codes "badcrc" ∷ decimal n.badcrc ∷ codes "nosession" ∷ decimal n.nosession ∷ []

-- how much was sent and held
abbrev pub node_words : Numbers → List (List ℕ)
node_words n =
    codes "sent" ∷ decimal n.sent ∷ codes "held" ∷ decimal n.held ∷ codes "bound" ∷ decimal n.bound ∷ []

-- the last line of a report that was read to its end
abbrev pub end_text : Numbers → List ℕ
end_text n = line_of ((codes "end" ∷ received_words n) ++ node_words n)
