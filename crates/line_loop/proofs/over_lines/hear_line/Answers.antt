use Rattle.std.proofs.Common.{◌≡◌, ℕ, List, take, ap}
use Rattle.line_text.specs.Buffer.{text_of}
use Rattle.line_loop.specs.Reader.{held_of, count_of}
use Rattle.line_loop.specs.Reply.{voices}
use Rattle.line_loop.proofs.Hearing.{goes_heard, hears_all, hears_err, hears_ok, stop_at, stops_heard, stops_unwritten}
use Rattle.line_loop.proofs.over_lines.hear_line.Goals as goal

pub returns-in-Err-clause-stops : goal.returns-in-Err-clause-stops
returns-in-Err-clause-stops g c first past h =
    let m = g.M.LineListener in
    let v = voices m.answers m.last m.long c.args.bounds in
    let old = c.args.reader.now in
    let line = take c.args.n (held_of old) in
    let same : take c.args.n c.held.result.now ≡ line = ap (λ (l : List ℕ). take c.args.n l) c.held.ensures in
    let written = g.O.Sink.written in
    let heard = hears_err m.heard v c.args.listener.now c.answer.new.listener (count_of old) c.number.result (take c.args.n c.held.result.now) line (text_of c.args.gathered.now) (text_of c.answer.new.gathered) c.in-Err.stop
    c.number.ensures same c.in-Err.ensures first past h in
    stops_heard (v first) past (held_of old) c.args.n (text_of c.args.gathered.now) (text_of c.answer.new.gathered) (written c.args.out.now) (written c.ended_by.new.out) c.in-Err.stop c.ended_by.result
    c.requires.line heard.1
    (stop_at m.heard m.last first c.answer.new.listener past c.in-Err.stop (text_of c.answer.new.gathered) (written c.args.out.now) (written c.ended_by.new.out) c.ended_by.result heard.0 c.ended_by.ensures.ended)

pub returns-in-Err-flush_much-clause-stops : goal.returns-in-Err-flush_much-clause-stops
returns-in-Err-flush_much-clause-stops g c first past h =
    let m = g.M.LineListener in
    let v = voices m.answers m.last m.long c.args.bounds in
    let old = c.args.reader.now in
    let line = take c.args.n (held_of old) in
    let same : take c.args.n c.held.result.now ≡ line = ap (λ (l : List ℕ). take c.args.n l) c.held.ensures in
    let heard = hears_ok m.heard v c.args.listener.now c.answer.new.listener (count_of old) c.number.result (take c.args.n c.held.result.now) line (text_of c.args.gathered.now) (text_of c.answer.new.gathered)
    c.number.ensures same c.in_default.ensures first past h in
    stops_unwritten (v first) past (held_of old) c.args.n (text_of c.args.gathered.now) (text_of c.answer.new.gathered) (g.O.Sink.written c.args.out.now) (g.O.Sink.written c.flush_much.new.out)
    c.requires.line heard.1 c.in-Err-flush_much.ensures.begins

pub returns-in-Ok-clause-goes : goal.returns-in-Ok-clause-goes
returns-in-Ok-clause-goes g c first past h =
    let m = g.M.LineListener in
    let v = voices m.answers m.last m.long c.args.bounds in
    let old = c.args.reader.now in
    let new = c.skip_line.new.self in
    let line = take c.args.n (held_of old) in
    let same : take c.args.n c.held.result.now ≡ line = ap (λ (l : List ℕ). take c.args.n l) c.held.ensures in
    let heard = hears_ok m.heard v c.args.listener.now c.answer.new.listener (count_of old) c.number.result (take c.args.n c.held.result.now) line (text_of c.args.gathered.now) (text_of c.answer.new.gathered)
    c.number.ensures same c.in_default.ensures first past h in record {
      past = _;
      hears = hears_all m.heard v first c.answer.new.listener (count_of old) (count_of new) line past c.args.listener.now h heard.0 c.skip_line.ensures.count;
      goes = goes_heard (v first) past (held_of old) c.args.n (text_of c.args.gathered.now) (text_of c.answer.new.gathered) (text_of c.flush_much.new.gathered) (held_of new)
          (g.O.Sink.written c.args.out.now) (g.O.Sink.written c.flush_much.new.out)
          c.requires.line heard.1 c.skip_line.ensures.held c.in-Ok.ensures.text;
    }
