use Rattle.std.proofs.Common.{◌≡◌, []}
use Rattle.line_text.specs.Buffer.{text_of}
use Rattle.line_loop.specs.Reader.{held_of, count_of, left_of}
use Rattle.line_loop.specs.Reply.{voices}
use Rattle.line_loop.specs.Steps.{HasCome}
use Rattle.line_loop.proofs.States.{Open}
use Rattle.line_loop.proofs.over_lines.listen_lines.Given as goal

abbrev pub invariant-reads : goal.invariant-reads
invariant-reads g l = let s = g.L.Source in let o = g.O.Sink in let m = g.M.LineListener in let v = voices m.answers m.last m.long l.fn.bounds l.fn.listener in record {
  state : HasCome m.heard l.fn.listener l.listener (count_of l.reader) (λ past. Open v (s.left l.fn.input) (s.left l.input) past (held_of l.reader) (left_of l.reader) (o.written l.fn.out) (o.written l.out));
  none : text_of l.gathered ≡ [];
  read : s.faults l.input ≡ s.faults l.fn.input;
  write : o.faults l.out ≡ o.faults l.fn.out;
}

abbrev pub decreases-reads : goal.decreases-reads
decreases-reads g l = left_of l.reader
