use Rattle.std.proofs.Common.{◌∙◌, ◌<◌, ◌^◌, refl, sym, arith}
use Rattle.line_text.specs.Buffer.{text_of}
use Rattle.node_core.specs.Keeps.{keeps}
use Rattle.node_core.specs.Types.{type_on}
use Rattle.node_core.specs.declared.file_reply.FileReply.TheVariants.{NoFile}
use Rattle.node_run.proofs.Goes.{none_kept, none_sent, none_told}
use Rattle.node_run.proofs.SameNodes.{still}
use Rattle.node_run.proofs.Tells.{put_none}
use Rattle.node_run.proofs.log.running.Running.leave.Goals as goal

pub returns-then-waiting-eq0-clause-followed : goal.returns-then-waiting-eq0-clause-followed
returns-then-waiting-eq0-clause-followed g c =
    let self = c.args.self.now in
    let lines = g.K.LineSink.lines in
    let k = keeps self.node.now in
    let m = c.args.rec.now.moment in
    let quiet = sym c.waiting.ensures ∙ c.if-waiting-eq0.true in
    let low : self.tally.numbers.sent < 2 ^ 64 = omega arith in record {
      same = record {
        over = record { lines = refl; tree = refl; told = refl; style = refl };
        node = still self.node.now;
        records = refl;
        number = refl;
        next = refl;
      };
      ok = record {
        file = NoFile;
        served = refl;
        follows = record {
          keeps_are = none_kept k quiet;
          told = none_told (g.W.ReportWriter.style self.writer.now) (type_on self.node.now.plan) m k.queues (text_of c.args.gathered.now) (lines self.lines.now) quiet;
          counted = none_sent m k.queues self.tally.numbers low quiet;
        };
        fails = record { told = put_none (g.K.LineSink.failed self.lines.now); cause = refl; called = omega arith };
      };
      err = tt;
    }
