use Rattle.std.proofs.Common.{ap, Ok, Err}
use Rattle.frame_log.specs.Reader.{given}
use Rattle.log_loop.proofs.Came.{goes_read, goes_given}
use Rattle.log_loop.proofs.Comes.{comes_read, comes_given}
use Rattle.log_loop.proofs.next.next_read.Goals as goal

pub returns-in-Ok-next_into-clause-log : goal.returns-in-Ok-next_into-clause-log
returns-in-Ok-next_into-clause-log g c =
    let left = g.L.Source.left in
    let written = c.next_into.new.written in
    goes_given c.args.reader.now c.next_into.new.self (left c.args.input.now) (left c.next_into.new.input) written c.in-Ok-next_into.more
    (goes_read c.args.reader.now c.next_into.new.self (left c.args.input.now) (left c.next_into.new.input) (given written (Ok c.in-Ok-next_into.more)) (c.in-Ok-next_into.ensures.next c.requires)
    (λ e. let h = c.in-Ok-next_into.ensures.ended c.requires e in (ap left h.0, h.1, h.2)))

pub returns-in-Err-clause-log : goal.returns-in-Err-clause-log
returns-in-Err-clause-log g c =
    let left = g.L.Source.left in
    goes_read c.args.reader.now c.next_into.new.self (left c.args.input.now) (left c.next_into.new.input) (Err c.in-Err.error) (c.in-Err.ensures.next c.requires)
    (λ e. let h = c.in-Err.ensures.ended c.requires e in (ap left h.0, h.1, h.2))

pub returns-in-Ok-next_into-clause-came : goal.returns-in-Ok-next_into-clause-came
returns-in-Ok-next_into-clause-came g c =
    let left = g.L.Source.left in
    let written = c.next_into.new.written in
    comes_given c.args.reader.now c.next_into.new.self (left c.args.input.now) (left c.next_into.new.input) _ written c.in-Ok-next_into.more
    (comes_read c.args.reader.now c.next_into.new.self (left c.args.input.now) (left c.next_into.new.input) _ (given written (Ok c.in-Ok-next_into.more)) (c.in-Ok-next_into.ensures.used c.requires)
    (λ e. ap left (c.in-Ok-next_into.ensures.ended c.requires e).0) c.in-Ok.ensures.none)

pub returns-in-Err-clause-came : goal.returns-in-Err-clause-came
returns-in-Err-clause-came g c =
    let left = g.L.Source.left in
    comes_read c.args.reader.now c.next_into.new.self (left c.args.input.now) (left c.next_into.new.input) _ (Err c.in-Err.error) (c.in-Err.ensures.used c.requires)
    (λ e. ap left (c.in-Err.ensures.ended c.requires e).0) c.in-Ok.ensures.none
