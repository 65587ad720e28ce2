use Rattle.std.proofs.Common.{◌≡◌, ◌∙◌, ◌<◌, ◌∷◌, ℕ, List, length, ap, sym, subst}
use Rattle.line_text.specs.Buffer.{text_of}
use Rattle.line_loop.specs.Reader.{held_of, count_of}
use Rattle.line_loop.specs.Reply.{voices}
use Rattle.line_loop.proofs.Hearing.{hears_err, hears_ok, last_heard, last_none, last_stopped, no_length, some_length, stop_at}
use Rattle.line_loop.proofs.over_lines.hear_last.Goals as goal

pub returns-then-is_empty-clause-last : goal.returns-then-is_empty-clause-last
returns-then-is_empty-clause-last g c first past h =
    let m = g.M.LineListener in
    let v = voices m.answers m.last m.long c.args.bounds in
    let line = held_of c.args.reader.now in
    let none : length line ≡ 0 = ap (λ (l : List ℕ). length l) (sym c.held-line.ensures) ∙ no_length (length c.held-line.result.now) (sym c.is_empty.ensures ∙ c.if-is_empty.true) in
    last_none (v first) past line (text_of c.args.gathered.now) (g.O.Sink.written c.args.out.now) (g.O.Sink.written c.whole.new.out) c.whole.result
    none c.requires (c.whole.ensures.ended first past h.heard)

pub returns-in-Err-clause-last : goal.returns-in-Err-clause-last
returns-in-Err-clause-last g c first past h =
    let m = g.M.LineListener in
    let v = voices m.answers m.last m.long c.args.bounds in
    let line = held_of c.args.reader.now in
    let some : 0 < length line = subst (λ (l : List ℕ). 0 < length l) c.held-line.ensures (some_length (length c.held-line.result.now) (sym c.is_empty.ensures ∙ c.if-is_empty.false)) in
    let written = g.O.Sink.written in
    let heard = hears_err m.heard v c.args.listener.now c.answer.new.listener (count_of c.args.reader.now) c.number.result c.held-line.result.now line (text_of c.args.gathered.now) (text_of c.answer.new.gathered) c.in-Err.stop
    c.number.ensures c.held-line.ensures c.in-Err.ensures first past h in
    last_stopped (v first) past line (text_of c.args.gathered.now) (text_of c.answer.new.gathered) (written c.args.out.now) (written c.ended_by.new.out) c.in-Err.stop c.ended_by.result
    some c.requires heard.1
    (stop_at m.heard m.last first c.answer.new.listener past c.in-Err.stop (text_of c.answer.new.gathered) (written c.args.out.now) (written c.ended_by.new.out) c.ended_by.result heard.0 c.ended_by.ensures.ended)

pub returns-clause-last : goal.returns-clause-last
returns-clause-last g c first past h =
    let m = g.M.LineListener in
    let v = voices m.answers m.last m.long c.args.bounds in
    let line = held_of c.args.reader.now in
    let some : 0 < length line = subst (λ (l : List ℕ). 0 < length l) c.held-line.ensures (some_length (length c.held-line.result.now) (sym c.is_empty.ensures ∙ c.if-is_empty.false)) in
    let heard = hears_ok m.heard v c.args.listener.now c.answer.new.listener (count_of c.args.reader.now) c.number.result c.held-line.result.now line (text_of c.args.gathered.now) (text_of c.answer.new.gathered)
    c.number.ensures c.held-line.ensures c.in_default.ensures first past h in
    last_heard (v first) past line (text_of c.args.gathered.now) (text_of c.answer.new.gathered) (g.O.Sink.written c.args.out.now) (g.O.Sink.written c.whole-2.new.out) c.whole-2.result
    some c.requires heard.1 (c.whole-2.ensures.ended first (line ∷ past) heard.0)
