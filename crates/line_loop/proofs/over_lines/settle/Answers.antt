use Rattle.std.proofs.Common.{◌≡◌, ◌<◌, ℕ, List, length, ap, arith}
use Rattle.line_text.specs.Buffer.{text_of}
use Rattle.line_loop.specs.Reader.{held_of, count_of}
use Rattle.line_loop.specs.Reply.{voices}
use Rattle.line_loop.proofs.Hearing.{comes_written, refuses_long, stays_behind, stays_more, stops_refused}
use Rattle.line_loop.proofs.over_lines.settle.Goals as goal

pub returns-then-held-bounds-clause-stops : goal.returns-then-held-bounds-clause-stops
returns-then-held-bounds-clause-stops g c =
    let m = g.M.LineListener in
    let v = voices m.answers m.last m.long c.args.bounds in
    let old = c.args.reader.now in
    let new = c.hear_held.new.reader in
    let written = g.O.Sink.written in
    let refusal = c.too_long-refusal.result in
    let size : length c.held-held.result.now ≡ length (held_of new) = ap (λ (l : List ℕ). length l) c.held-held.ensures in
    let long : c.args.bounds.line < length (held_of new) = grind (arith, size) in
    stays_more m.heard v c.args.listener.now c.hear_held.new.listener (count_of old) (count_of new) (held_of old) (held_of new) (text_of c.args.gathered.now) (text_of c.hear_held.new.gathered) (written c.args.out.now) (written c.hear_held.new.out) (written c.refuse.new.out) c.refuse.result
    c.in_default.ensures.goes
    (λ first past h.
    let refused = refuses_long (v first) past (held_of new) c.number.result refusal c.in_default.ensures.none long (omega (arith, c.number.ensures, h.number)) c.too_long-refusal.ensures in
    stops_refused (v first) past (held_of new) (text_of c.hear_held.new.gathered) (written c.hear_held.new.out) (written c.refuse.new.out) refusal c.refuse.result refused (c.refuse.ensures.ended first past h.heard))

pub returns-in-Err-flush-clause-stops : goal.returns-in-Err-flush-clause-stops
returns-in-Err-flush-clause-stops g c =
    let m = g.M.LineListener in
    let v = voices m.answers m.last m.long c.args.bounds in
    let old = c.args.reader.now in
    let new = c.hear_held.new.reader in
    let written = g.O.Sink.written in
    stays_behind m.heard v c.args.listener.now c.hear_held.new.listener (count_of old) (count_of new) (held_of old) (held_of new) (text_of c.args.gathered.now) (text_of c.hear_held.new.gathered) (written c.args.out.now) (written c.hear_held.new.out) (written c.flush.new.out)
    c.in_default.ensures.goes c.in-Err-flush.ensures.begins

pub returns-in-Ok-clause-goes : goal.returns-in-Ok-clause-goes
returns-in-Ok-clause-goes g c =
    let m = g.M.LineListener in
    let v = voices m.answers m.last m.long c.args.bounds in
    let old = c.args.reader.now in
    let new = c.hear_held.new.reader in
    let written = g.O.Sink.written in
    comes_written m.heard v c.args.listener.now c.hear_held.new.listener (count_of old) (count_of new) (held_of old) (held_of new) (text_of c.args.gathered.now) (text_of c.hear_held.new.gathered) (text_of c.flush.new.gathered) (written c.args.out.now) (written c.hear_held.new.out) (written c.flush.new.out)
    c.in_default.ensures.goes c.in-Ok.ensures.none c.in-Ok.ensures.written
