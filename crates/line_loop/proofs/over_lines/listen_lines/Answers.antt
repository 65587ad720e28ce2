use Rattle.std.proofs.Common.{◌∙◌, ℕ, List, [], refl, sym, subst, arith}
use Rattle.line_text.specs.Buffer.{text_of}
use Rattle.line_loop.specs.Reader.{held_of, left_of}
use Rattle.line_loop.specs.Reply.{voices}
use Rattle.line_loop.proofs.States.{Open, open_start, open_stopped, settled, calm_bytes, calm_failed, failed_heard, calm_wanting, calm_over, calm_last_end}
use Rattle.line_loop.proofs.over_lines.listen_lines.Goals as goal

pub returns-in-Err-clause-gone : goal.returns-in-Err-clause-gone
returns-in-Err-clause-gone g c =
    let i = c.reads.invariant in
    let m = g.M.LineListener in
    let v = voices m.answers m.last m.long c.args.bounds c.args.listener.now in
    let left = g.L.Source.left in
    let written = g.O.Sink.written in
    let old = c.reads.reader in
    (open_stopped v (left c.args.input.now) (left c.reads.input) i.state.past (held_of old) (left_of old) (text_of c.reads.gathered) (written c.args.out.now) (written c.reads.out) (written c.settle.new.out)
    c.in-Err.ended i.state.goes i.none (c.in-Err.ensures.stops c.args.listener.now i.state.past i.state.hears)).gone

pub returns-in-Err-clause-streamed : goal.returns-in-Err-clause-streamed
returns-in-Err-clause-streamed g c =
    let i = c.reads.invariant in
    let m = g.M.LineListener in
    let v = voices m.answers m.last m.long c.args.bounds c.args.listener.now in
    let left = g.L.Source.left in
    let written = g.O.Sink.written in
    let old = c.reads.reader in
    (open_stopped v (left c.args.input.now) (left c.reads.input) i.state.past (held_of old) (left_of old) (text_of c.reads.gathered) (written c.args.out.now) (written c.reads.out) (written c.settle.new.out)
    c.in-Err.ended i.state.goes i.none (c.in-Err.ensures.stops c.args.listener.now i.state.past i.state.hears)).streamed

pub returns-in-Failed-clause-gone : goal.returns-in-Failed-clause-gone
returns-in-Failed-clause-gone g c =
    let i = c.reads.invariant in
    let m = g.M.LineListener in
    let v = voices m.answers m.last m.long c.args.bounds c.args.listener.now in
    let left = g.L.Source.left in
    let written = g.O.Sink.written in
    let old = c.reads.reader in
    let new = c.settle.new.reader in
    let all = c.in_default.ensures.goes c.args.listener.now i.state.past i.state.hears in
    let calm = settled v (left c.args.input.now) (left c.reads.input) i.state.past all.past (held_of old) (held_of new) (left_of old) (left_of new) (text_of c.reads.gathered) (text_of c.settle.new.gathered)
    (written c.args.out.now) (written c.reads.out) (written c.settle.new.out) i.state.goes i.none all.goes c.in_default.ensures.written c.in_default.ensures.none c.in_default.ensures.short c.settle.ensures.room in
    (calm_failed v (left c.args.input.now) (left c.reads.input) (left c.read.new.input) all.past (held_of new) (left_of new) (written c.args.out.now) (written c.settle.new.out) calm c.in-Failed.ensures.reads).gone

pub returns-in-Failed-clause-streamed : goal.returns-in-Failed-clause-streamed
returns-in-Failed-clause-streamed g c =
    let i = c.reads.invariant in
    let m = g.M.LineListener in
    let v = voices m.answers m.last m.long c.args.bounds c.args.listener.now in
    let left = g.L.Source.left in
    let written = g.O.Sink.written in
    let old = c.reads.reader in
    let new = c.settle.new.reader in
    let all = c.in_default.ensures.goes c.args.listener.now i.state.past i.state.hears in
    let calm = settled v (left c.args.input.now) (left c.reads.input) i.state.past all.past (held_of old) (held_of new) (left_of old) (left_of new) (text_of c.reads.gathered) (text_of c.settle.new.gathered)
    (written c.args.out.now) (written c.reads.out) (written c.settle.new.out) i.state.goes i.none all.goes c.in_default.ensures.written c.in_default.ensures.none c.in_default.ensures.short c.settle.ensures.room in
    (calm_failed v (left c.args.input.now) (left c.reads.input) (left c.read.new.input) all.past (held_of new) (left_of new) (written c.args.out.now) (written c.settle.new.out) calm c.in-Failed.ensures.reads).streamed

pub returns-in-Failed-clause-heard : goal.returns-in-Failed-clause-heard
returns-in-Failed-clause-heard g c _ =
    let i = c.reads.invariant in
    let m = g.M.LineListener in
    let v = voices m.answers m.last m.long c.args.bounds c.args.listener.now in
    let left = g.L.Source.left in
    let written = g.O.Sink.written in
    let old = c.reads.reader in
    let new = c.settle.new.reader in
    let all = c.in_default.ensures.goes c.args.listener.now i.state.past i.state.hears in
    let calm = settled v (left c.args.input.now) (left c.reads.input) i.state.past all.past (held_of old) (held_of new) (left_of old) (left_of new) (text_of c.reads.gathered) (text_of c.settle.new.gathered)
    (written c.args.out.now) (written c.reads.out) (written c.settle.new.out) i.state.goes i.none all.goes c.in_default.ensures.written c.in_default.ensures.none c.in_default.ensures.short c.settle.ensures.room in
    failed_heard v m.heard c.args.listener.now c.settle.new.listener (left c.args.input.now) (left c.reads.input) (left c.read.new.input) all.past (held_of new) (left_of new) (written c.args.out.now) (written c.settle.new.out) calm c.in-Failed.ensures.reads all.hears.heard

pub returns-in-NoMemory-clause-gone : goal.returns-in-NoMemory-clause-gone
returns-in-NoMemory-clause-gone g c =
    let i = c.reads.invariant in
    let m = g.M.LineListener in
    let v = voices m.answers m.last m.long c.args.bounds c.args.listener.now in
    let left = g.L.Source.left in
    let written = g.O.Sink.written in
    let old = c.reads.reader in
    let new = c.settle.new.reader in
    let all = c.in_default.ensures.goes c.args.listener.now i.state.past i.state.hears in
    let calm = settled v (left c.args.input.now) (left c.reads.input) i.state.past all.past (held_of old) (held_of new) (left_of old) (left_of new) (text_of c.reads.gathered) (text_of c.settle.new.gathered)
    (written c.args.out.now) (written c.reads.out) (written c.settle.new.out) i.state.goes i.none all.goes c.in_default.ensures.written c.in_default.ensures.none c.in_default.ensures.short c.settle.ensures.room in
    (calm_wanting v (left c.args.input.now) (left c.reads.input) (left c.read.new.input) all.past (held_of new) (left_of new) (written c.args.out.now) (written c.settle.new.out) calm c.in-NoMemory.ensures.reads).gone

pub returns-in-NoMemory-clause-streamed : goal.returns-in-NoMemory-clause-streamed
returns-in-NoMemory-clause-streamed g c =
    let i = c.reads.invariant in
    let m = g.M.LineListener in
    let v = voices m.answers m.last m.long c.args.bounds c.args.listener.now in
    let left = g.L.Source.left in
    let written = g.O.Sink.written in
    let old = c.reads.reader in
    let new = c.settle.new.reader in
    let all = c.in_default.ensures.goes c.args.listener.now i.state.past i.state.hears in
    let calm = settled v (left c.args.input.now) (left c.reads.input) i.state.past all.past (held_of old) (held_of new) (left_of old) (left_of new) (text_of c.reads.gathered) (text_of c.settle.new.gathered)
    (written c.args.out.now) (written c.reads.out) (written c.settle.new.out) i.state.goes i.none all.goes c.in_default.ensures.written c.in_default.ensures.none c.in_default.ensures.short c.settle.ensures.room in
    (calm_wanting v (left c.args.input.now) (left c.reads.input) (left c.read.new.input) all.past (held_of new) (left_of new) (written c.args.out.now) (written c.settle.new.out) calm c.in-NoMemory.ensures.reads).streamed

pub returns-in-Over-clause-gone : goal.returns-in-Over-clause-gone
returns-in-Over-clause-gone g c =
    let i = c.reads.invariant in
    let m = g.M.LineListener in
    let v = voices m.answers m.last m.long c.args.bounds c.args.listener.now in
    let left = g.L.Source.left in
    let written = g.O.Sink.written in
    let old = c.reads.reader in
    let new = c.settle.new.reader in
    let all = c.in_default.ensures.goes c.args.listener.now i.state.past i.state.hears in
    let calm = settled v (left c.args.input.now) (left c.reads.input) i.state.past all.past (held_of old) (held_of new) (left_of old) (left_of new) (text_of c.reads.gathered) (text_of c.settle.new.gathered)
    (written c.args.out.now) (written c.reads.out) (written c.settle.new.out) i.state.goes i.none all.goes c.in_default.ensures.written c.in_default.ensures.none c.in_default.ensures.short c.settle.ensures.room in
    let over = c.in-Over.ensures.reads in
    (calm_over v (left c.args.input.now) (left c.reads.input) (left c.read.new.input) all.past (held_of new) (left_of new) (written c.args.out.now) (written c.settle.new.out) over.bytes calm over.took over.one over.full
    (written c.overlong.new.out) c.overlong.result (c.overlong.ensures.ended c.args.listener.now all.past all.hears.heard)).gone

pub returns-in-Over-clause-streamed : goal.returns-in-Over-clause-streamed
returns-in-Over-clause-streamed g c =
    let i = c.reads.invariant in
    let m = g.M.LineListener in
    let v = voices m.answers m.last m.long c.args.bounds c.args.listener.now in
    let left = g.L.Source.left in
    let written = g.O.Sink.written in
    let old = c.reads.reader in
    let new = c.settle.new.reader in
    let all = c.in_default.ensures.goes c.args.listener.now i.state.past i.state.hears in
    let calm = settled v (left c.args.input.now) (left c.reads.input) i.state.past all.past (held_of old) (held_of new) (left_of old) (left_of new) (text_of c.reads.gathered) (text_of c.settle.new.gathered)
    (written c.args.out.now) (written c.reads.out) (written c.settle.new.out) i.state.goes i.none all.goes c.in_default.ensures.written c.in_default.ensures.none c.in_default.ensures.short c.settle.ensures.room in
    let over = c.in-Over.ensures.reads in
    (calm_over v (left c.args.input.now) (left c.reads.input) (left c.read.new.input) all.past (held_of new) (left_of new) (written c.args.out.now) (written c.settle.new.out) over.bytes calm over.took over.one over.full
    (written c.overlong.new.out) c.overlong.result (c.overlong.ensures.ended c.args.listener.now all.past all.hears.heard)).streamed

pub returns-in-End-clause-gone : goal.returns-in-End-clause-gone
returns-in-End-clause-gone g c =
    let i = c.reads.invariant in
    let m = g.M.LineListener in
    let v = voices m.answers m.last m.long c.args.bounds c.args.listener.now in
    let left = g.L.Source.left in
    let written = g.O.Sink.written in
    let old = c.reads.reader in
    let new = c.settle.new.reader in
    let all = c.in_default.ensures.goes c.args.listener.now i.state.past i.state.hears in
    let calm = settled v (left c.args.input.now) (left c.reads.input) i.state.past all.past (held_of old) (held_of new) (left_of old) (left_of new) (text_of c.reads.gathered) (text_of c.settle.new.gathered)
    (written c.args.out.now) (written c.reads.out) (written c.settle.new.out) i.state.goes i.none all.goes c.in_default.ensures.written c.in_default.ensures.none c.in_default.ensures.short c.settle.ensures.room in
    let end = c.in-End.ensures.reads in
    (calm_last_end v (left c.args.input.now) (left c.reads.input) (left c.read.new.input) all.past (held_of new) (left_of new) (written c.args.out.now) (written c.settle.new.out) (written c.hear_last.new.out) c.hear_last.result (held_of c.read.new.self)
    calm end.0 end.1 end.2 (c.hear_last.ensures.last c.args.listener.now all.past (record { heard = all.hears.heard; number = c.read.ensures.count ∙ all.hears.number }))).gone

pub returns-in-End-clause-streamed : goal.returns-in-End-clause-streamed
returns-in-End-clause-streamed g c =
    let i = c.reads.invariant in
    let m = g.M.LineListener in
    let v = voices m.answers m.last m.long c.args.bounds c.args.listener.now in
    let left = g.L.Source.left in
    let written = g.O.Sink.written in
    let old = c.reads.reader in
    let new = c.settle.new.reader in
    let all = c.in_default.ensures.goes c.args.listener.now i.state.past i.state.hears in
    let calm = settled v (left c.args.input.now) (left c.reads.input) i.state.past all.past (held_of old) (held_of new) (left_of old) (left_of new) (text_of c.reads.gathered) (text_of c.settle.new.gathered)
    (written c.args.out.now) (written c.reads.out) (written c.settle.new.out) i.state.goes i.none all.goes c.in_default.ensures.written c.in_default.ensures.none c.in_default.ensures.short c.settle.ensures.room in
    let end = c.in-End.ensures.reads in
    (calm_last_end v (left c.args.input.now) (left c.reads.input) (left c.read.new.input) all.past (held_of new) (left_of new) (written c.args.out.now) (written c.settle.new.out) (written c.hear_last.new.out) c.hear_last.result (held_of c.read.new.self)
    calm end.0 end.1 end.2 (c.hear_last.ensures.last c.args.listener.now all.past (record { heard = all.hears.heard; number = c.read.ensures.count ∙ all.hears.number }))).streamed

pub reads-preserved : goal.reads-preserved
reads-preserved g c =
    let i = c.reads.invariant in
    let m = g.M.LineListener in
    let v = voices m.answers m.last m.long c.args.bounds c.args.listener.now in
    let left = g.L.Source.left in
    let written = g.O.Sink.written in
    let old = c.reads.reader in
    let new = c.settle.new.reader in
    let all = c.in_default.ensures.goes c.args.listener.now i.state.past i.state.hears in
    let calm = settled v (left c.args.input.now) (left c.reads.input) i.state.past all.past (held_of old) (held_of new) (left_of old) (left_of new) (text_of c.reads.gathered) (text_of c.settle.new.gathered)
    (written c.args.out.now) (written c.reads.out) (written c.settle.new.out) i.state.goes i.none all.goes c.in_default.ensures.written c.in_default.ensures.none c.in_default.ensures.short c.settle.ensures.room in
    let grows = c.in-Bytes.ensures.reads in record {
      state = record {
        past = all.past;
        hears = record { heard = all.hears.heard; number = c.read.ensures.count ∙ all.hears.number };
        goes = calm_bytes v (left c.args.input.now) (left c.reads.input) (left c.read.new.input) all.past (held_of new) (held_of c.read.new.self) (left_of new) (left_of c.read.new.self) (written c.args.out.now) (written c.settle.new.out) grows.bytes
            calm grows.took grows.held grows.room grows.few;
      };
      none = c.in_default.ensures.written;
      read = c.in-Bytes.ensures.kept (λ e. cc) ∙ i.read;
      write = c.in_default.ensures.kept ∙ i.write;
    }

pub reads-smaller : goal.reads-smaller
reads-smaller g c =
    let grows = c.in-Bytes.ensures.reads in omega (arith, grows.room, grows.some, c.settle.ensures.room)

pub reads-init : goal.reads-init
reads-init g c =
    let m = g.M.LineListener in
    let v = voices m.answers m.last m.long c.args.bounds c.args.listener.now in
    let left = g.L.Source.left c.args.input.now in
    let out = g.O.Sink.written c.args.out.now in record {
      state = record {
        past = [];
        hears = record { heard = c.requires; number = c.new-reader.ensures.count };
        goes = subst (λ (s : List ℕ). Open v left left [] s (left_of c.new-reader.result) out out) (sym c.new-reader.ensures.held)
            (subst (λ (n : ℕ). Open v left left [] [] n out out) (sym c.new-reader.ensures.room) (open_start v left out));
      };
      none = c.new-gathered.ensures;
      read = refl;
      write = refl;
    }
