use Rattle.std.proofs.Common.{◌≤◌, ap, Result, Ok, Err, Option, Some, None, arith}
use Rattle.tail_frame.specs.declared.logged.Record.{Record}
use Rattle.frame_log.specs.Reader.{bytes_left}
use Rattle.frame_log.specs.declared.reader.LogReader.{LogReader}
use Rattle.log_loop.specs.Next.{ReadsOn, handed}
use Rattle.log_loop.specs.declared.next.Stop.{Stop}
use Rattle.log_loop.proofs.Comes.{goes_kept, comes_kept, goes_refused, comes_refused, comes_later}
use Rattle.log_loop.proofs.next.next.Goals as goal

reads_later : (old mid new : LogReader) (result : Result (Option Record) Stop) → bytes_left mid ≤ bytes_left old → ReadsOn mid new result → ReadsOn old new result
reads_later old mid new (Ok (Some rec)) h r = (omega (arith, h, r.0), r.1)
reads_later old mid new (Ok None) h r = tt
reads_later old mid new (Err stop) h r = tt

pub returns-in-Ok-false-clause-reader : goal.returns-in-Ok-false-clause-reader
returns-in-Ok-false-clause-reader g c =
    reads_later c.args.reader.now c.next_kept_into.new.self c.next_read.new.reader (handed c.next_read.new.written c.next_read.result) c.next_kept_into.ensures.within c.next_read.ensures.reader

pub returns-in-Ok-clause-log : goal.returns-in-Ok-clause-log
returns-in-Ok-clause-log g c =
    goes_kept c.args.reader.now c.next_kept_into.new.self (g.L.Source.left c.args.input.now) c.next_kept_into.new.written (rw c.in-Ok-true.field-0-test at c.in-Ok-true.ensures.next c.requires) c.next_kept_into.ensures.end

pub returns-in-Ok-clause-came : goal.returns-in-Ok-clause-came
returns-in-Ok-clause-came g c =
    comes_kept c.args.reader.now c.next_kept_into.new.self (g.L.Source.left c.args.input.now) _ c.next_kept_into.new.written (rw c.in-Ok-true.field-0-test at c.in-Ok-true.ensures.used c.requires) c.next_kept_into.ensures.room

pub returns-in-Ok-false-clause-came : goal.returns-in-Ok-false-clause-came
returns-in-Ok-false-clause-came g c =
    let left = g.L.Source.left in
    comes_later c.args.reader.now c.next_kept_into.new.self c.next_read.new.reader (left c.args.input.now) (left c.next_read.new.input) _ (handed c.next_read.new.written c.next_read.result)
    (rw c.in-Ok-false.field-0-test at c.in-Ok-false.ensures.used c.requires) c.next_kept_into.ensures.same c.next_kept_into.ensures.end c.next_kept_into.ensures.room c.next_read.ensures.came

pub returns-in-Ok-flush-clause-log : goal.returns-in-Ok-flush-clause-log
returns-in-Ok-flush-clause-log g c =
    goes_refused c.args.reader.now c.next_kept_into.new.self (g.L.Source.left c.args.input.now) c.in-Err.error (c.in-Err.ensures.next c.requires) c.next_kept_into.ensures.end

pub returns-in-Ok-flush-clause-came : goal.returns-in-Ok-flush-clause-came
returns-in-Ok-flush-clause-came g c =
    comes_refused c.args.reader.now c.next_kept_into.new.self (g.L.Source.left c.args.input.now) _ c.in-Err.error (λ e. c.in-Err.ensures.input c.requires (ap Err e)) (c.in-Err.ensures.used c.requires) c.next_kept_into.ensures.room
