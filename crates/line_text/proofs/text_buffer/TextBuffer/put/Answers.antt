use Rattle.std.proofs.Common.{arith, refl, ap, ◌∙◌, ◌++◌, take}
use Rattle.line_text.specs.Buffer.{text_of, room_of}
use Rattle.line_text.proofs.Texts.{put_part}
use Rattle.line_text.proofs.text_buffer.TextBuffer.put.Goals as goal

pub returns-clause-text : goal.returns-clause-text
unfolding text_of room_of
returns-clause-text g c =
    put_part c.args.self.now.bytes c.args.self.now.len c.args.n g.row.N _ c.deref_mut.result.now _ c.deref_mut.ensures.value (omega arith) refl (omega arith) (omega arith) (omega arith)
    ∙ ap (λ t. take c.args.self.now.len c.args.self.now.bytes.items ++ take c.args.n t) c.copy_from_slice.ensures.after
