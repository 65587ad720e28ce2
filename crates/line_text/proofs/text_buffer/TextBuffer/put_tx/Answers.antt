use Rattle.std.proofs.Common.{append_assoc}
use Rattle.line_text.proofs.text_buffer.TextBuffer.put_tx.Goals as goal

pub returns : goal.returns
returns c = record {
  text = simp (c.put_slice-6.ensures.text, c.put_hex.ensures.text, c.put_slice-5.ensures.text, c.put_ident.ensures.text, c.put_slice-4.ensures.text, c.put_slice-3.ensures.text, c.put_slice-2.ensures.text, c.put_moment.ensures.text, c.put_slice.ensures.text, append_assoc);
}
