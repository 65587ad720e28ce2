use Rattle.std.proofs.Common.{append_assoc}
use Rattle.node_reach.proofs.change_lines.put_online.Goals as goal

pub returns : goal.returns
returns c = simp (c.put_slice-6.ensures.text, c.put_number-2.ensures.text, c.from-2.ensures, c.put_slice-5.ensures.text, c.put_byte_word-3.ensures.text, c.put_slice-4.ensures.text, c.put_byte_word-2.ensures.text, c.put_slice-3.ensures.text, c.put_number.ensures.text, c.from.ensures, c.put_slice-2.ensures.text, c.put_byte_word.ensures.text, c.put_slice.ensures.text, c.put_moment.ensures.text, c.in_ok-reserve.ensures.text, append_assoc)
