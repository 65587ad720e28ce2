use Rattle.std.proofs.Common.{◌∙◌, ◌++◌, List, refl, ap, subst, arith, map, rules}
use Rattle.line_text.specs.Buffer.{text_of}
use Rattle.node_core.specs.Keeps.{keeps}
use Rattle.report_lines.specs.LineSinks.{BeginsList}
use Rattle.node_core.specs.Queues.{leaving}
use Rattle.node_core.specs.Types.{type_on}
use Rattle.node_core.specs.declared.file_reply.FileReply.TheVariants.{NoFile}
use Rattle.report_lines.specs.declared.line.FullLine.{FullLine}
use Rattle.report_lines.specs.declared.line.Line.{Line}
use Rattle.report_lines.specs.declared.line.Line.TheVariants.{Full}
use Rattle.report_lines.specs.declared.numbers.Numbers.{Numbers}
use Rattle.node_core.proofs.Steps.{on_err}
use Rattle.node_run.specs.Goes.{with_sent}
use Rattle.node_run.specs.Tells.{HasTold}
use Rattle.node_run.proofs.Tells.{put_none}
use Rattle.node_run.proofs.log.running.Running.leave_some.Goals as goal

pub returns-in_err-sent-clause-followed : goal.returns-in_err-sent-clause-followed
returns-in_err-sent-clause-followed g c =
    let self = c.args.self.now in
    let lines = g.K.LineSink.lines in
    let out = leaving c.args.rec.now.moment (keeps self.node.now).queues in
    let all = ap (λ (fs : List FullLine). map Full fs ++ out) c.new-full.ensures in record {
      same = record {
        over = record { lines = refl; tree = refl; told = refl; style = c.send.ensures.style };
        node = c.send.ensures.same;
        records = refl;
        number = refl;
        next = refl;
      };
      ok = search rules;
      err = on_err _ c.from_residual.result (record {
        part = λ file served. record {
          file = file;
          served = served;
          part = record {
            told = subst (λ (ls : List Line). BeginsList ls (lines self.lines.now) (lines c.send.new.lines)) all c.in_err-sent.ensures.err;
            uncounted = refl;
          };
        };
        untold = record { told = c.send.ensures.untold; count = omega arith; called = omega arith };
      });
    }

pub returns-clause-followed : goal.returns-clause-followed
returns-clause-followed g c =
    let self = c.args.self.now in
    let lines = g.K.LineSink.lines in
    let failed = g.K.LineSink.failed in
    let out = leaving c.args.rec.now.moment (keeps self.node.now).queues in
    let all = ap (λ (fs : List FullLine). map Full fs ++ out) c.new-full.ensures in
    let sent = c.in_ok-sent.ensures in record {
      same = record {
        over = record { lines = refl; tree = refl; told = refl; style = c.send.ensures.style };
        node = c.send.ensures.same;
        records = ap (λ (n : Numbers). n.records) c.send-2.ensures;
        number = refl;
        next = refl;
      };
      ok = record {
        file = NoFile;
        served = refl;
        follows = record {
          keeps_are = sent.keeps;
          told = subst (λ (ls : List Line). HasTold (g.W.ReportWriter.style self.writer.now) (type_on self.node.now.plan) ls (text_of c.args.gathered.now) (text_of c.send.new.gathered) (lines self.lines.now) (lines c.send.new.lines)) all (sent.told (type_on self.node.now.plan));
          counted = c.send-2.ensures ∙ ap (with_sent self.tally.numbers) sent.sent;
        };
        fails = record { told = c.send.ensures.untold ∙ put_none (failed self.lines.now); cause = refl; called = omega arith };
      };
      err = tt;
    }
