use Rattle.std.proofs.Common.{None, false, [], refl, arith}
use Rattle.line_text.specs.Buffer.{text_of}
use Rattle.node_core.proofs.Steps.{on_err}
use Rattle.node_run.specs.Goes.{state_in}
use Rattle.node_run.proofs.Takes.{broke_following, came_by, goes_behind, served_by}
use Rattle.node_run.proofs.Tells.{put_none, told_none}
use Rattle.node_run.proofs.log.running.Running.pass_by.Goals as goal

pub returns-in_err-leave-clause-count : goal.returns-in_err-leave-clause-count
returns-in_err-leave-clause-count g c = let same = c.leave.ensures.followed.same.records in omega arith

pub returns-in_err-leave-clause-err : goal.returns-in_err-leave-clause-err
returns-in_err-leave-clause-err g c =
    let style = g.W.ReportWriter.style in
    let lines = g.K.LineSink.lines in
    let self = c.args.self.now in
    let files = g.T.Tree.files self.tree.now in
    let rec = c.args.rec.now in
    let to = came_by rec self.node.now c.requires.elsewhere in
    let part = c.in_err-leave.ensures.followed.err in
    let put = lines self.lines.now in
    on_err _ c.from_residual.result (record {
      breaks = λ plan before past since h failed.
          broke_following plan before rec past (state_in style lines self) h self.node.now [] None false to files (style self.writer.now) put (state_in style lines c.leave.new.self) _ since failed (put_none put) part;
      untold = part.untold;
    })

pub returns-clause-ok : goal.returns-clause-ok
returns-clause-ok g c =
    let style = g.W.ReportWriter.style in
    let lines = g.K.LineSink.lines in
    let self = c.args.self.now in
    let files = g.T.Tree.files self.tree.now in
    let rec = c.args.rec.now in
    let node = self.node.now in
    let to = came_by rec node c.requires.elsewhere in
    let written = style self.writer.now in
    let put = lines self.lines.now in
    let text = text_of c.args.gathered.now in
    let after = text_of c.leave.new.gathered in
    let fin = state_in style lines c.leave.new.self in
    let same = c.leave.ensures.followed.same in
    let x = c.in_ok-leave.ensures.followed.ok in record {
      file = x.file;
      served = served_by files rec node node [] None false x.file to x.served;
      goes = λ plan before past few h.
          goes_behind plan before rec past (state_in style lines self) h node [] None false to x.file written put text text after refl (λ types are. told_none written types text put) fin same.node same.over.style x.follows few c.of-seen.result c.held.result _
          c.of-seen.ensures.delivered c.of-seen.ensures.badcrc c.of-seen.ensures.nosession c.held.ensures.held c.held.ensures.bound c.count.ensures;
      fails = record { told = x.fails.told; cause = x.fails.cause; called = x.fails.called };
    }
