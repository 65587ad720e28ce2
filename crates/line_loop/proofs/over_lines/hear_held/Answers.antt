use Rattle.std.proofs.Common.{◌∙◌, refl}
use Rattle.line_text.specs.Buffer.{text_of}
use Rattle.line_loop.specs.Reader.{held_of, count_of}
use Rattle.line_loop.specs.Reply.{voices}
use Rattle.line_loop.proofs.Hearing.{comes_at, comes_more, comes_none, stays_more}
use Rattle.line_loop.proofs.over_lines.hear_held.Goals as goal

pub lines-init : goal.lines-init
lines-init g c =
    let m = g.M.LineListener in
    let r = c.args.reader.now in record {
      goes = comes_none m.heard (voices m.answers m.last m.long c.args.bounds) c.args.listener.now (count_of r) (held_of r) (text_of c.args.gathered.now) (g.O.Sink.written c.args.out.now);
      few = c.requires;
      room = refl;
      write = refl;
    }

pub lines-preserved : goal.lines-preserved
lines-preserved g c =
    let i = c.lines.invariant in
    let m = g.M.LineListener in
    let v = voices m.answers m.last m.long c.args.bounds in
    let old = c.args.reader.now in
    let mid = c.find_line.new.self in
    let new = c.hear_line.new.reader in
    let written = g.O.Sink.written in
    let here = comes_at m.heard v c.args.listener.now c.lines.listener (count_of old) (count_of c.lines.reader) (count_of mid) (held_of old) (held_of c.lines.reader) (held_of mid) (text_of c.args.gathered.now) (text_of c.lines.gathered)
    (written c.args.out.now) (written c.lines.out) i.goes c.find_line.ensures.count c.find_line.ensures.held in record {
      goes = comes_more m.heard v c.args.listener.now c.lines.listener c.hear_line.new.listener (count_of old) (count_of mid) (count_of new) (held_of old) (held_of mid) (held_of new) (text_of c.args.gathered.now) (text_of c.lines.gathered) (text_of c.hear_line.new.gathered)
          (written c.args.out.now) (written c.lines.out) (written c.hear_line.new.out) here c.in_default-hear_line.ensures.goes;
      few = c.in_default-hear_line.ensures.few;
      room = c.hear_line.ensures.room ∙ (c.find_line.ensures.room ∙ i.room);
      write = c.in_default-hear_line.ensures.kept ∙ i.write;
    }

pub returns-in-Err-clause-stops : goal.returns-in-Err-clause-stops
returns-in-Err-clause-stops g c =
    let i = c.lines.invariant in
    let m = g.M.LineListener in
    let v = voices m.answers m.last m.long c.args.bounds in
    let old = c.args.reader.now in
    let mid = c.find_line.new.self in
    let written = g.O.Sink.written in
    let here = comes_at m.heard v c.args.listener.now c.lines.listener (count_of old) (count_of c.lines.reader) (count_of mid) (held_of old) (held_of c.lines.reader) (held_of mid) (text_of c.args.gathered.now) (text_of c.lines.gathered)
    (written c.args.out.now) (written c.lines.out) i.goes c.find_line.ensures.count c.find_line.ensures.held in
    stays_more m.heard v c.args.listener.now c.lines.listener (count_of old) (count_of mid) (held_of old) (held_of mid) (text_of c.args.gathered.now) (text_of c.lines.gathered)
    (written c.args.out.now) (written c.lines.out) (written c.hear_line.new.out) c.in-Err.ended here c.in-Err.ensures.stops
