use Rattle.std.proofs.Common.{◌∙◌, None, refl, ap, arith}
use Rattle.line_text.specs.Buffer.{text_of}
use Rattle.node_core.proofs.Steps.{on_err}
use Rattle.node_run.specs.Goes.{state, state_in}
use Rattle.report_lines.specs.LineSinks.{put_behind}
use Rattle.node_core.specs.Quick.{quick_is_bad, quick_lines}
use Rattle.node_core.specs.Steps.{Heard, failed_at}
use Rattle.node_core.specs.Types.{type_at}
use Rattle.node_run.proofs.Takes.{breaks_again, broke_following, broke_untold, came_quick, goes_behind, served_by, taken_again}
use Rattle.node_run.proofs.Tells.{on_err_by, on_ok_by}
use Rattle.node_run.proofs.log.running.Running.take_at.Goals as goal

-- its session isn't found at once

pub returns-in_default-clause-ok : goal.returns-in_default-clause-ok
returns-in_default-clause-ok g c =
    let style = g.W.ReportWriter.style in
    let lines = g.K.LineSink.lines in
    let self = c.args.self.now in
    on_ok_by c.take_any.result
    (taken_again (g.T.Tree.files self.tree.now) c.args.rec.now (state_in style lines self) c.quick.new.self (state_in style lines c.take_any.new.self) _ c.quick.ensures.plan c.quick.ensures.keeps (c.in_default.ensures.none refl) (text_of c.args.gathered.now) (text_of c.take_any.new.gathered))
    c.take_any.ensures.ok

pub returns-in_default-clause-err : goal.returns-in_default-clause-err
returns-in_default-clause-err g c =
    let style = g.W.ReportWriter.style in
    let lines = g.K.LineSink.lines in
    let self = c.args.self.now in
    on_err_by c.take_any.result
    (breaks_again (g.T.Tree.files self.tree.now) c.args.rec.now (state_in style lines self) c.quick.new.self (state_in style lines c.take_any.new.self) _ c.quick.ensures.plan c.quick.ensures.keeps (c.in_default.ensures.none refl))
    c.take_any.ensures.err

-- it is

pub returns-in_err-seen-clause-err : goal.returns-in_err-seen-clause-err
returns-in_err-seen-clause-err g c =
    let style = g.W.ReportWriter.style in
    let lines = g.K.LineSink.lines in
    let self = c.args.self.now in
    let files = g.T.Tree.files self.tree.now in
    let new = state c.quick.new.self (style c.tell_quick.new.writer) (lines c.tell_quick.new.lines) self.tally.numbers in
    on_err _ c.from_residual.result (record {
      breaks = λ plan before past since h failed. broke_untold files plan before c.args.rec.now past (state_in style lines self) new since h failed c.in_err-seen.ensures.err refl;
      untold = record { told = c.tell_quick.ensures.untold; count = omega arith; called = omega arith };
    })

pub returns-in_err-leave-clause-count : goal.returns-in_err-leave-clause-count
returns-in_err-leave-clause-count g c = let same = c.leave.ensures.followed.same.records in omega arith

pub returns-in_err-leave-clause-err : goal.returns-in_err-leave-clause-err
returns-in_err-leave-clause-err g c =
    let style = g.W.ReportWriter.style in
    let lines = g.K.LineSink.lines in
    let self = c.args.self.now in
    let files = g.T.Tree.files self.tree.now in
    let rec = c.args.rec.now in
    let node = c.quick.new.self in
    let quick = c.in-Some.ensures in
    let told = quick_lines node c.in-Some.quick in
    let bad = quick_is_bad node c.in-Some.quick in
    let to = came_quick rec self.node.now node told bad c.quick.ensures.plan c.quick.ensures.keeps quick.stands quick.lines quick.badcrc quick.asks in
    let part = c.in_err-leave.ensures.followed.err in
    on_err _ c.from_residual-in_err-leave.result (record {
      breaks = λ plan before past since h failed.
          broke_following plan before rec past (state_in style lines self) h node told None bad to files (style c.tell_quick.new.writer) (lines c.tell_quick.new.lines) (state_in style lines c.leave.new.self) _ since failed (c.in_ok-seen.ensures.told (type_at node.table) (λ key. refl)).put part;
      untold = record { told = part.untold.told ∙ c.tell_quick.ensures.untold; count = part.untold.count; called = part.untold.called };
    })

pub returns-clause-ok : goal.returns-clause-ok
returns-clause-ok g c =
    let style = g.W.ReportWriter.style in
    let lines = g.K.LineSink.lines in
    let self = c.args.self.now in
    let files = g.T.Tree.files self.tree.now in
    let rec = c.args.rec.now in
    let node = c.quick.new.self in
    let quick = c.in-Some.ensures in
    let told = quick_lines node c.in-Some.quick in
    let bad = quick_is_bad node c.in-Some.quick in
    let to = came_quick rec self.node.now node told bad c.quick.ensures.plan c.quick.ensures.keeps quick.stands quick.lines quick.badcrc quick.asks in
    let written = style c.tell_quick.new.writer in
    let put = lines c.tell_quick.new.lines in
    let text = text_of c.args.gathered.now in
    let now = text_of c.tell_quick.new.gathered in
    let after = text_of c.leave.new.gathered in
    let fin = state_in style lines c.leave.new.self in
    let same = c.leave.ensures.followed.same in
    let counts = c.in_ok-seen.ensures.counts in
    let x = c.in_ok-leave.ensures.followed.ok in record {
      file = x.file;
      served = served_by files rec self.node.now node told None bad x.file to x.served;
      goes = λ plan before past few h.
          goes_behind plan before rec past (state_in style lines self) h node told None bad to x.file written put text now after c.tell_quick.ensures.style c.in_ok-seen.ensures.told fin same.node same.over.style x.follows few c.in_ok-seen.seen c.held.result _
          counts.delivered counts.badcrc counts.nosession c.held.ensures.held c.held.ensures.bound c.count.ensures;
      fails = record { told = x.fails.told ∙ ap (λ o. put_behind o (failed_at (Heard rec x.file))) c.tell_quick.ensures.untold; cause = x.fails.cause; called = x.fails.called };
    }
