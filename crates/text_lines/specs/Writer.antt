-- What a writer of lines writes.
use Rattle.std.specs.Prelude.{◌≡◌, ℕ, ◌++◌, List, ◌∷◌, codes}
use Rattle.line_text.specs.Buffer.{text_of}
use Rattle.line_text.specs.declared.text_buffer.TextBuffer.{TextBuffer}
use Rattle.node_plan.specs.declared.plan.BusPlan.{BusPlan}
use Rattle.report_lines.specs.declared.line_ref.LineRef.{LineRef}
use Rattle.text_lines.specs.declared.line_writer.LineWriter.{LineWriter}
use Rattle.report_lines.specs.declared.line_ref.RxRef.{RxRef}
use Rattle.text_lines.specs.Text.{line_text, payload_text, place_words, spaced, transfer_words}
use Rattle.report_lines.specs.Lent.{owned}

-- the buses whose names its lines have
unfoldable pub writes_for : LineWriter → List BusPlan
writes_for writer = writer.names.buses

-- the text of a transfer up to its payload
abbrev pub front_text : List BusPlan → RxRef → List ℕ
front_text buses rx =
    spaced ((codes "rx" ∷ place_words buses rx.moment rx.bus rx.key) ++ transfer_words rx.priority rx.tid rx.first rx.last)
    ++ payload_text rx.payload.now

-- it puts the text of a line behind a text
abbrev pub Writes : LineWriter → LineRef → TextBuffer → TextBuffer → Type 0
Writes writer line old new = text_of new ≡ text_of old ++ line_text (writes_for writer) (owned line)
