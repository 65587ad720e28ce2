use Rattle.std.proofs.Common.{◌≤◌, ◌∷◌, ℕ, List, [], map, refl, sym, ap, Err, subst, ◌∙◌, arith}
use Rattle.tail_frame.specs.declared.logged.Record.{Record}
use Rattle.frame_log.specs.Reader.{buses_of}
use Rattle.line_text.specs.Buffer.{text_of}
use Rattle.gathered_text.specs.Gathered.{Gathered}
use Rattle.log_loop.specs.Gone.{stages}
use Rattle.log_loop.specs.Listened.{HasListened}
use Rattle.log_loop.specs.declared.ended.Ended.{Ended}
use Rattle.log_loop.proofs.Came.{Reads, reads_none, reads_more}
use Rattle.log_loop.proofs.Listened.{listened_stopped, listened_wanting, listened_finished}
use Rattle.log_loop.proofs.Runs.{next_order, next_low, gathered_step}
use Rattle.log_loop.proofs.Streams.{streams_none, streams_next, open_before, grew_gathered}
use Rattle.log_loop.proofs.Written.{gathered_all, gathered_less}
use Rattle.log_loop.proofs.over_log.hear_all.Goals as goal

pub returns-in-Err-clause-listened : goal.returns-in-Err-clause-listened
returns-in-Err-clause-listened g c =
    let i = c.records.invariant in
    let m = g.M.Listener in
    let names = buses_of c.args.reader.now in
    let v = m.voice c.args.listener.now in
    let left = g.L.Source.left in
    let written = g.O.Sink.written in
    let s = stages (m.heard c.args.listener.now c.records.listener) (m.ended c.args.listener.now c.records.listener) (m.broke c.args.listener.now c.records.listener) (m.cut_short c.args.listener.now c.records.listener) in
    subst (λ (stat : Ended). HasListened names v s (left c.args.input.now) (left c.next.new.input) stat (written c.args.out.now) (written c.next.new.out)) (sym c.stopped.ensures)
    (listened_stopped names v s (g.met.M.Listener.comes c.args.listener.now) (left c.args.input.now) (left c.records.input) (left c.next.new.input) c.records.reader c.next.new.reader i.past (text_of c.records.gathered) (text_of c.next.new.gathered)
    (written c.args.out.now) (written c.records.out) (written c.next.new.out) i.may i.reads i.streams i.gathered
    c.in-Err.stop c.in-Err.ensures.log c.in-Err.ensures.came c.in-Err.ensures.end (λ h. c.in-Err.ensures.failed (ap Err h)) c.in-Err.ensures.text i.heard)

pub hear-requires-clause-moment : goal.hear-requires-clause-moment
hear-requires-clause-moment g c =
    let i = c.records.invariant in
    let names = buses_of c.args.reader.now in
    let v = g.M.Listener.voice c.args.listener.now in
    let left = g.L.Source.left in
    let more = reads_more names (left c.args.input.now) (left c.records.input) (left c.next.new.input) c.records.reader c.next.new.reader (map v.record_of i.past) c.next.new.written i.reads (rw c.in-Ok-true.field-0-test at c.in-Ok-true.ensures.log) c.in-Ok-true.ensures.end in
    let order = next_order c.ordered.ensures.order names (left c.args.input.now) (left c.next.new.input) c.next.new.reader (map v.record_of i.past) c.next.new.written more in
    omega (arith, order.0, i.latest)

pub hear-requires-clause-moment_low : goal.hear-requires-clause-moment_low
hear-requires-clause-moment_low g c =
    let i = c.records.invariant in
    let names = buses_of c.args.reader.now in
    let v = g.M.Listener.voice c.args.listener.now in
    let left = g.L.Source.left in
    let more = reads_more names (left c.args.input.now) (left c.records.input) (left c.next.new.input) c.records.reader c.next.new.reader (map v.record_of i.past) c.next.new.written i.reads (rw c.in-Ok-true.field-0-test at c.in-Ok-true.ensures.log) c.in-Ok-true.ensures.end in
    next_low c.ordered.ensures.fit names (left c.args.input.now) (left c.next.new.input) c.next.new.reader (map v.record_of i.past) c.next.new.written more

pub hear-requires-clause-count : goal.hear-requires-clause-count
hear-requires-clause-count g c =
    let less = (rw c.in-Ok-true.field-0-test at c.in-Ok-true.ensures.reader).0 in
    omega (arith, less, c.records.invariant.count)

pub records-preserved : goal.records-preserved
records-preserved g c =
    let i = c.records.invariant in
    let m = g.M.Listener in
    let names = buses_of c.args.reader.now in
    let v = m.voice c.args.listener.now in
    let left = g.L.Source.left in
    let written = g.O.Sink.written in
    let rec = c.next.new.written in
    let step = c.in-Ok.ensures.heard in
    let goes = step.goes c.args.listener.now i.past i.heard in
    let is = step.of c.args.listener.now in
    let more = reads_more names (left c.args.input.now) (left c.records.input) (left c.next.new.input) c.records.reader c.next.new.reader (map v.record_of i.past) c.next.new.written i.reads (rw c.in-Ok-true.field-0-test at c.in-Ok-true.ensures.log) c.in-Ok-true.ensures.end in
    let less = gathered_less _ _ _ (written c.args.out.now) (written c.records.out) (written c.next.new.out) i.gathered (rw c.in-Ok-true.field-0-test at c.in-Ok-true.ensures.text) in record {
      past = step.event ∷ i.past;
      may = (goes.may, i.may);
      reads = subst (λ (r : Record). Reads names (left c.args.input.now) (left c.next.new.input) c.next.new.reader (r ∷ map v.record_of i.past)) (sym is) more;
      streams = streams_next names v (left c.args.input.now) (left c.records.input) (left c.next.new.input) c.records.reader c.next.new.reader i.past (text_of c.next.new.gathered) (written c.args.out.now) (written c.records.out) (written c.next.new.out)
          rec step.event is i.streams (rw c.in-Ok-true.field-0-test at c.in-Ok-true.ensures.came)
          (open_before c.records.reader c.next.new.reader (left c.records.input) (left c.next.new.input) _ (rw c.in-Ok-true.field-0-test at c.in-Ok-true.ensures.log)) c.next.ensures.buses
          (grew_gathered _ _ (written c.records.out) (written c.next.new.out) (rw c.in-Ok-true.field-0-test at c.in-Ok-true.ensures.text)) less;
      reading = (rw c.in-Ok-true.field-0-test at c.in-Ok-true.ensures.reader).1;
      heard = goes.hears;
      latest = subst (λ (r : Record). m.latest c.hear.new.self ≤ r.moment) (sym is) c.hear.ensures.latest;
      count = omega (arith, c.hear.ensures.count, (rw c.in-Ok-true.field-0-test at c.in-Ok-true.ensures.reader).0, i.count);
      gathered = gathered_step v i.past step.event _ _ _ _ less goes.text;
      read = (rw c.in-Ok-true.field-0-test at c.in-Ok-true.ensures.cause).0 ∙ i.read;
      write = (rw c.in-Ok-true.field-0-test at c.in-Ok-true.ensures.cause).1 ∙ i.write;
    }

pub returns-in_default-clause-listened : goal.returns-in_default-clause-listened
returns-in_default-clause-listened g c =
    let i = c.records.invariant in
    let m = g.M.Listener in
    let names = buses_of c.args.reader.now in
    let v = m.voice c.args.listener.now in
    let left = g.L.Source.left in
    let written = g.O.Sink.written in
    let s = stages (m.heard c.args.listener.now c.hear.new.self) (m.ended c.args.listener.now c.hear.new.self) (m.broke c.args.listener.now c.hear.new.self) (m.cut_short c.args.listener.now c.hear.new.self) in
    let goes = c.in_default.ensures.broke c.args.listener.now i.past i.heard in
    let more = reads_more names (left c.args.input.now) (left c.records.input) (left c.next.new.input) c.records.reader c.next.new.reader (map v.record_of i.past) c.next.new.written i.reads (rw c.in-Ok-true.field-0-test at c.in-Ok-true.ensures.log) c.in-Ok-true.ensures.end in
    listened_wanting names v s (g.met.M.Listener.comes c.args.listener.now) (left c.args.input.now) (left c.records.input) (left c.next.new.input) c.records.reader c.next.new.reader i.past (text_of c.records.gathered) (text_of c.next.new.gathered)
    (written c.args.out.now) (written c.records.out) (written c.next.new.out) i.may i.reads i.streams i.gathered
    c.next.new.written goes.event goes.of goes.may more (rw c.in-Ok-true.field-0-test at c.in-Ok-true.ensures.came) (rw c.in-Ok-true.field-0-test at c.in-Ok-true.ensures.text) goes.breaks

pub returns-clause-listened : goal.returns-clause-listened
returns-clause-listened g c =
    let i = c.records.invariant in
    let m = g.M.Listener in
    let names = buses_of c.args.reader.now in
    let v = m.voice c.args.listener.now in
    let left = g.L.Source.left in
    let written = g.O.Sink.written in
    let s = stages (m.heard c.args.listener.now c.end.new.listener) (m.ended c.args.listener.now c.end.new.listener) (m.broke c.args.listener.now c.end.new.listener) (m.cut_short c.args.listener.now c.end.new.listener) in
    let first = c.args.listener.now in
    listened_finished names v s (g.met.M.Listener.comes c.args.listener.now) (left c.args.input.now) (left c.records.input) (left c.next.new.input) c.records.reader c.next.new.reader i.past (text_of c.records.gathered) (text_of c.next.new.gathered)
    (written c.args.out.now) (written c.records.out) (written c.next.new.out) i.may i.reads i.streams i.gathered
    c.end.result (written c.end.new.out) (rw c.in-Ok-false.field-0-test at c.in-Ok-false.ensures.log) (rw c.in-Ok-false.field-0-test at c.in-Ok-false.ensures.came) c.in-Ok-false.ensures.end (rw c.in-Ok-false.field-0-test at c.in-Ok-false.ensures.text).0
    c.end.ensures.only (λ e. c.end.ensures.ended e first i.past i.heard) (λ e. c.end.ensures.cut_short e first i.past i.heard)
    (λ e. c.end.ensures.ok e first i.past i.heard) (λ e. c.end.ensures.begins e first i.past i.heard) c.end.ensures.memory

pub records-init : goal.records-init
records-init g c =
    let w = g.O.Sink.written c.args.out.now in
    let names = buses_of c.args.reader.now in
    let left = g.L.Source.left c.args.input.now in
    let v = g.M.Listener.voice c.args.listener.now in record {
      past = [];
      may = tt;
      reads = reads_none names left c.args.reader.now c.requires.log c.requires.open;
      streams = streams_none names v left c.args.reader.now w (refl, c.requires.start.0, c.requires.start.1) (omega (arith, c.requires.room));
      reading = c.requires.reading;
      heard = c.requires.heard;
      latest = omega (arith, c.requires.fresh.0);
      count = omega (arith, c.requires.fresh.1, c.requires.room);
      gathered = subst (λ (t : List ℕ). Gathered [] t w w) (sym c.new-gathered.ensures) (gathered_all [] w);
      read = refl;
      write = refl;
    }
