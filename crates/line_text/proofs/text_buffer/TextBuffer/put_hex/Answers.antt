use Rattle.std.proofs.Common.{◌≡◌, ◌∙◌, ◌++◌, [], length, sym, ap, append-nil}
use Rattle.std.proofs.lemmas.Bool.{eqb-true}
use Rattle.std.proofs.lemmas.List.{nil_from_length}
use Rattle.hex.specs.Hex.{encode_with, encode_upper}
use Rattle.line_text.specs.Buffer.{text_of}
use Rattle.line_text.proofs.text_buffer.TextBuffer.put_hex.Goals as goal

pub returns-then-is_empty-clause-text : goal.returns-then-is_empty-clause-text
unfolding encode_with
returns-then-is_empty-clause-text c =
    let before = text_of c.args.self.now in
    let bytes = c.args.bytes.now in
    let empty : bytes ≡ [] = nil_from_length bytes (eqb-true (length bytes) 0 (sym c.is_empty.ensures ∙ c.if-is_empty.true)) in
    sym (ap (λ b. before ++ encode_upper b) empty ∙ append-nil before)
