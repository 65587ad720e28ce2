use Rattle.std.proofs.Common.{map}
use Rattle.line_text.specs.Buffer.{text_of}
use Rattle.node_core.specs.Keeps.{keeps}
use Rattle.node_core.specs.Queues.{leaving}
use Rattle.report_lines.specs.declared.line.Line.TheVariants.{Full}
use Rattle.node_core.proofs.Steps.{on_err}
use Rattle.node_run.proofs.Tells.{begins_later, begins_more, on_err_by, on_ok_by, put_of, told_in, told_more}
use Rattle.node_run.proofs.log.sending.send.Goals as goal

pub returns-in_err-tell_fulls-clause-err : goal.returns-in_err-tell_fulls-clause-err
returns-in_err-tell_fulls-clause-err g c =
    let lines = g.K.LineSink.lines in
    on_err _ c.from_residual.result (begins_more (map Full c.args.fulls.now) (leaving c.args.moment (keeps c.args.node.now).queues) (lines c.args.lines.now) (lines c.tell_fulls.new.lines) c.in_err-tell_fulls.ensures.err)

pub returns-clause-told : goal.returns-clause-told
returns-clause-told g c =
    let lines = g.K.LineSink.lines in
    let style = g.W.ReportWriter.style c.args.writer.now in
    let out = leaving c.args.moment (keeps c.args.node.now).queues in
    on_ok_by c.drain.result (λ t types. told_more style types (map Full c.args.fulls.now) out (text_of c.args.gathered.now) (text_of c.tell_fulls.new.gathered) (text_of c.drain.new.gathered) (lines c.args.lines.now) (lines c.tell_fulls.new.lines) (lines c.drain.new.lines) (c.in_ok-tell_fulls.ensures.told types)
    (told_in c.tell_fulls.ensures.style types (t types))) c.drain.ensures.told

pub returns-clause-err : goal.returns-clause-err
returns-clause-err g c =
    let lines = g.K.LineSink.lines in
    let out = leaving c.args.moment (keeps c.args.node.now).queues in
    on_err_by c.drain.result (begins_later (map Full c.args.fulls.now) out (lines c.args.lines.now) (lines c.tell_fulls.new.lines) (lines c.drain.new.lines) (put_of c.in_ok-tell_fulls.ensures.told)) c.drain.ensures.err
