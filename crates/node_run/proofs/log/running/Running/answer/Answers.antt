use Rattle.std.proofs.Common.{◌∙◌, ◌++◌, ◌∷◌, [], Bool, List, Some, length, refl, sym, ap, ap₂, subst, append-nil, rules}
use Rattle.std.specs.Prelude.{if◌then◌else◌}
use Rattle.line_text.specs.Buffer.{text_of}
use Rattle.node_core.specs.Files.{root_of}
use Rattle.node_core.specs.Keeps.{keeps}
use Rattle.report_lines.specs.LineSinks.{BeginsList, put_behind}
use Rattle.node_core.specs.Queues.{leaving}
use Rattle.node_core.specs.Steps.{Kept, left}
use Rattle.node_core.specs.Types.{type_on}
use Rattle.report_lines.specs.declared.line.Line.{Line}
use Rattle.report_lines.specs.declared.numbers.Numbers.{Numbers}
use Rattle.node_core.proofs.Steps.{on_err}
use Rattle.node_run.specs.Follows.{asked, following}
use Rattle.node_run.specs.Goes.{with_sent}
use Rattle.node_run.specs.Tells.{HasTold}
use Rattle.node_run.proofs.Fails.{calls_for}
use Rattle.node_run.proofs.SameNodes.{same_by, same_then, still}
use Rattle.node_run.proofs.Tells.{begins_none}
use Rattle.node_run.proofs.log.running.Running.answer.Goals as goal

pub returns-in_err-file-clause-followed : goal.returns-in_err-file-clause-followed
returns-in_err-file-clause-followed g c =
    let self = c.args.self.now in
    let lines = g.K.LineSink.lines self.lines.now in record {
      same = record {
        over = record { lines = refl; tree = refl; told = c.serve.ensures.files; style = refl };
        node = still self.node.now;
        records = refl;
        number = refl;
        next = refl;
      };
      ok = search rules;
      err = on_err _ c.from_residual.result (record {
        part = λ file served. record {
          file = file;
          served = served;
          part = record {
            told = begins_none (following self.node.now.plan c.args.rec.now.moment (asked (Some c.args.request) file) (keeps self.node.now)) lines lines refl;
            uncounted = refl;
          };
        };
        untold = record { told = refl; count = c.serve.ensures.count; called = c.serve.ensures.calls };
      });
    }

pub returns-in_err-full-clause-followed : goal.returns-in_err-full-clause-followed
returns-in_err-full-clause-followed g c =
    let self = c.args.self.now in
    let lines = g.K.LineSink.lines self.lines.now in
    let file = c.in_ok-file.file in record {
      same = record {
        over = record { lines = refl; tree = refl; told = c.serve.ensures.files; style = refl };
        node = same_by c.reply.ensures.plan c.reply.ensures.latest c.reply.ensures.stands;
        records = refl;
        number = refl;
        next = refl;
      };
      ok = search rules;
      err = on_err _ c.from_residual-in_err-full.result (record {
        part = λ other may. record {
          file = file;
          served = c.in_ok-file.ensures.served;
          part = record {
            told = begins_none (following self.node.now.plan c.args.rec.now.moment (asked (Some c.args.request) file) (keeps self.node.now)) lines lines refl;
            uncounted = refl;
          };
        };
        untold = record { told = refl; count = c.serve.ensures.count; called = c.serve.ensures.calls };
      });
    }

pub returns-in_err-sent-clause-followed : goal.returns-in_err-sent-clause-followed
returns-in_err-sent-clause-followed g c =
    let self = c.args.self.now in
    let lines = g.K.LineSink.lines in
    let m = c.args.rec.now.moment in
    let reply = c.in_ok-full.ensures in
    let all = ap₂ (λ (ls : List Line) (k : Kept). ls ++ leaving m k.queues) reply.fulls reply.keeps in record {
      same = record {
        over = record { lines = refl; tree = refl; told = c.serve.ensures.files; style = c.send.ensures.style };
        node = same_then (same_by c.reply.ensures.plan c.reply.ensures.latest c.reply.ensures.stands) c.send.ensures.same;
        records = refl;
        number = refl;
        next = refl;
      };
      ok = search rules;
      err = on_err _ c.from_residual-in_err-sent.result (record {
        part = λ other may. record {
          file = c.in_ok-file.file;
          served = c.in_ok-file.ensures.served;
          part = record {
            told = subst (λ (ls : List Line). BeginsList ls (lines self.lines.now) (lines c.send.new.lines)) all c.in_err-sent.ensures.err;
            uncounted = refl;
          };
        };
        untold = record { told = c.send.ensures.untold; count = c.serve.ensures.count; called = c.serve.ensures.calls };
      });
    }

pub returns-in_err-tell_failed-clause-followed : goal.returns-in_err-tell_failed-clause-followed
returns-in_err-tell_failed-clause-followed g c =
    let self = c.args.self.now in
    let lines = g.K.LineSink.lines in
    let m = c.args.rec.now.moment in
    let file = c.in_ok-file.file in
    let reply = c.in_ok-full.ensures in
    let due = following self.node.now.plan m (asked (Some c.args.request) file) (keeps self.node.now) in
    let all = ap₂ (λ (ls : List Line) (k : Kept). ls ++ leaving m k.queues) reply.fulls reply.keeps in record {
      same = record {
        over = record { lines = refl; tree = refl; told = c.serve.ensures.files; style = c.send.ensures.style };
        node = same_then (same_by c.reply.ensures.plan c.reply.ensures.latest c.reply.ensures.stands) c.send.ensures.same;
        records = refl;
        number = refl;
        next = refl;
      };
      ok = search rules;
      err = on_err _ c.from_residual-in_err-tell_failed.result (record {
        part = λ other may. record {
          file = file;
          served = c.in_ok-file.ensures.served;
          part = record {
            told = record { front = due; rest = []; whole = sym (append-nil due); put = c.tell_failed.ensures.lines ∙ ((c.in_ok-sent.ensures.told (type_on self.node.now.plan)).put ∙ ap (put_behind (lines self.lines.now)) all) };
            uncounted = refl;
          };
        };
        untold = record { told = c.in_err-tell_failed.ensures.err ∙ c.send.ensures.untold; count = c.serve.ensures.count; called = c.serve.ensures.calls };
      });
    }

pub returns-clause-followed : goal.returns-clause-followed
returns-clause-followed g c =
    let self = c.args.self.now in
    let style = g.W.ReportWriter.style in
    let lines = g.K.LineSink.lines in
    let m = c.args.rec.now.moment in
    let line = c.args.rec.now.line in
    let calls = g.T.Tree.calls in
    let file = c.in_ok-file.file in
    let sent = c.in_ok-sent.ensures in
    let reply = c.in_ok-full.ensures in
    let all = ap₂ (λ (ls : List Line) (k : Kept). ls ++ leaving m k.queues) reply.fulls reply.keeps in
    let told = subst (λ (ls : List Line). HasTold (style self.writer.now) (type_on self.node.now.plan) ls (text_of c.args.gathered.now) (text_of c.send.new.gathered) (lines self.lines.now) (lines c.send.new.lines)) all (sent.told (type_on self.node.now.plan)) in record {
      same = record {
        over = record { lines = refl; tree = refl; told = c.serve.ensures.files; style = c.send.ensures.style };
        node = same_then (same_by c.reply.ensures.plan c.reply.ensures.latest c.reply.ensures.stands) c.send.ensures.same;
        records = ap (λ (n : Numbers). n.records) c.send-2.ensures;
        number = refl;
        next = refl;
      };
      ok = record {
        file = file;
        served = c.in_ok-file.ensures.served;
        follows = record {
          keeps_are = sent.keeps ∙ ap left reply.keeps;
          told = record { gathered = told.gathered; put = c.tell_failed.ensures.lines ∙ told.put };
          counted = c.send-2.ensures ∙ ap (with_sent self.tally.numbers) (sent.sent ∙ ap (λ (k : Kept). length (leaving m k.queues)) reply.keeps);
        };
        fails = record {
          told = c.in_ok-tell_failed.ensures.told ∙ ap₂ (λ o (failed : Bool). put_behind o (if failed then line ∷ [] else [])) c.send.ensures.untold c.is_failed.ensures;
          cause = c.in_ok-file.ensures.cause;
          called = calls_for (g.T.Tree.files self.tree.now) (root_of self.node.now.plan.serve) c.args.request.question file (calls self.tree.now) (calls c.serve.new.tree) c.in_ok-file.ensures.served
              (λ none. ap calls (c.serve.ensures.unasked none)) c.serve.ensures.calls;
        };
      };
      err = tt;
    }
