use Rattle.std.proofs.Common.{append_assoc}
use Rattle.text_lines.proofs.bus_words.BusWords.put_any.Goals as goal

pub returns-clause-text : goal.returns-clause-text
returns-clause-text c =
    rw (
      c.put_slice-4.ensures.text,
      c.put_number.ensures.text,
      c.put_slice-3.ensures.text,
      c.kind_word.ensures.text,
      c.put_slice-2.ensures.text,
      c.put_name.ensures.text,
      c.put_slice.ensures.text,
    ) (simp append_assoc)
