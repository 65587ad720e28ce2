use Rattle.std.proofs.Common.{◌≡◌, ◌≤◌, length}
use Rattle.line_text.specs.Buffer.{text_of}
use Rattle.line_loop.specs.Reader.{held_of, count_of, left_of}
use Rattle.line_loop.specs.Reply.{voices}
use Rattle.line_loop.specs.Steps.{Comes, Goes}
use Rattle.line_loop.proofs.over_lines.hear_held.Given as goal

abbrev pub invariant-lines : goal.invariant-lines
invariant-lines g l = let o = g.O.Sink in let m = g.M.LineListener in record {
  goes : Comes m.heard l.fn.listener l.listener (count_of l.fn.reader) (count_of l.reader)
      (λ f past new. Goes (voices m.answers m.last m.long l.fn.bounds f) past (held_of l.fn.reader) new (held_of l.reader) (text_of l.fn.gathered) (text_of l.gathered) (o.written l.fn.out) (o.written l.out));
  few : length (text_of l.gathered) ≤ 65536;
  room : left_of l.reader ≡ left_of l.fn.reader;
  write : o.faults l.out ≡ o.faults l.fn.out;
}

abbrev pub decreases-lines : goal.decreases-lines
decreases-lines g l = length (held_of l.reader)
