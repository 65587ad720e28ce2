use Rattle.std.proofs.Common.{◌≡◌, ◌∙◌, Option, None, Some, false, [], refl, sym, ap, subst, arith}
use Rattle.std.specs.Prelude.{is_some}
use Rattle.std.specs.Option.{ForSome}
use Rattle.line_text.specs.Buffer.{text_of}
use Rattle.node_plan.specs.declared.plan.Plan.{Plan}
use Rattle.node_core.specs.Came.{came_lines, came_request}
use Rattle.report_lines.specs.LineSinks.{put_behind}
use Rattle.node_core.specs.Sending.{IsRequestTo}
use Rattle.node_core.specs.Steps.{Heard, failed_at}
use Rattle.node_core.specs.Types.{type_at}
use Rattle.report_lines.specs.Lent.{told_lines}
use Rattle.node_core.specs.declared.came.Heard.{Heard as HeardFrame}
use Rattle.node_core.proofs.Steps.{on_err}
use Rattle.node_run.specs.Follows.{request_ended}
use Rattle.node_run.specs.Goes.{state, state_in}
use Rattle.node_run.specs.Forms.{Types}
use Rattle.node_run.specs.Tells.{AreTypesOf, HasTold}
use Rattle.node_run.proofs.Takes.{broke_following, broke_untold, came_to, came_to_none, goes_behind, served_by}
use Rattle.node_run.proofs.Tells.{put_none, told_none, typed_by}
use Rattle.node_run.proofs.log.running.Running.take_any.Goals as goal

is_none_so : (o : Option HeardFrame) → is_some o ≡ false → o ≡ None
is_none_so None e = refl
is_none_so (Some r) e = absurd cc

pub returns-in_err-came-clause-err : goal.returns-in_err-came-clause-err
returns-in_err-came-clause-err g c =
    let style = g.W.ReportWriter.style in
    let lines = g.K.LineSink.lines in
    let self = c.args.self.now in
    let files = g.T.Tree.files self.tree.now in
    let old = state_in style lines self in
    let new = state c.step.new.self (style self.writer.now) (lines self.lines.now) self.tally.numbers in
    on_err _ c.from_residual.result (record {
      breaks = λ plan before past since h failed. broke_untold files plan before c.args.rec.now past old new since h failed refl refl;
      untold = record { told = refl; count = omega arith; called = omega arith };
    })

-- it is no frame for the node

pub returns-in_err-leave-clause-count : goal.returns-in_err-leave-clause-count
returns-in_err-leave-clause-count g c = let same = c.leave.ensures.followed.same.records in omega arith

pub returns-in_err-leave-clause-err : goal.returns-in_err-leave-clause-err
returns-in_err-leave-clause-err g c =
    let style = g.W.ReportWriter.style in
    let lines = g.K.LineSink.lines in
    let self = c.args.self.now in
    let files = g.T.Tree.files self.tree.now in
    let rec = c.args.rec.now in
    let node = c.step.new.self in
    let step = c.in_ok-came.ensures in
    let came = c.in_ok-came.came in
    let none = is_none_so came.heard (c.if-is_none.ensures {u = tt}) in
    let to = came_to_none rec self.node.now node came c.step.ensures.plan c.step.ensures.keeps step.stands step.lines step.badcrc none in
    let part = c.in_err-leave.ensures.followed.err in
    let put = lines self.lines.now in
    on_err _ c.from_residual-in_err-leave.result (record {
      breaks = λ plan before past since h failed.
          broke_following plan before rec past (state_in style lines self) h node [] None came.badcrc to files (style self.writer.now) put (state_in style lines c.leave.new.self) _ since failed (put_none put) part;
      untold = part.untold;
    })

pub returns-then-is_none-clause-ok : goal.returns-then-is_none-clause-ok
returns-then-is_none-clause-ok g c =
    let style = g.W.ReportWriter.style in
    let lines = g.K.LineSink.lines in
    let self = c.args.self.now in
    let files = g.T.Tree.files self.tree.now in
    let rec = c.args.rec.now in
    let node = c.step.new.self in
    let step = c.in_ok-came.ensures in
    let came = c.in_ok-came.came in
    let none = is_none_so came.heard (c.if-is_none.ensures {u = tt}) in
    let to = came_to_none rec self.node.now node came c.step.ensures.plan c.step.ensures.keeps step.stands step.lines step.badcrc none in
    let written = style self.writer.now in
    let put = lines self.lines.now in
    let text = text_of c.args.gathered.now in
    let after = text_of c.leave.new.gathered in
    let fin = state_in style lines c.leave.new.self in
    let same = c.leave.ensures.followed.same in
    let x = c.in_ok-leave.ensures.followed.ok in record {
      file = x.file;
      served = served_by files rec self.node.now node [] None came.badcrc x.file to x.served;
      goes = λ plan before past few h.
          goes_behind plan before rec past (state_in style lines self) h node [] None came.badcrc to x.file written put text text after refl (λ types are. told_none written types text put) fin same.node same.over.style x.follows few c.of-seen.result c.held.result _
          c.of-seen.ensures.delivered c.of-seen.ensures.badcrc c.of-seen.ensures.nosession c.held.ensures.held c.held.ensures.bound c.count.ensures;
      fails = record { told = x.fails.told; cause = x.fails.cause; called = x.fails.called };
    }

-- it is one

pub returns-in_err-tell-clause-err : goal.returns-in_err-tell-clause-err
returns-in_err-tell-clause-err g c =
    let style = g.W.ReportWriter.style in
    let lines = g.K.LineSink.lines in
    let self = c.args.self.now in
    let files = g.T.Tree.files self.tree.now in
    let new = state c.step.new.self (style c.tell.new.writer) (lines c.tell.new.lines) self.tally.numbers in
    on_err _ c.from_residual-in_err-tell.result (record {
      breaks = λ plan before past since h failed. broke_untold files plan before c.args.rec.now past (state_in style lines self) new since h failed c.in_err-tell.ensures.err refl;
      untold = record { told = c.tell.ensures.untold; count = omega arith; called = omega arith };
    })

pub follow-requires : goal.follow-requires
follow-requires g c =
    let came = c.in_ok-came.came in
    let lines = came_lines c.step.new.self c.args.rec.now came in
    subst (λ (p : Plan). ForSome (came_request came lines) (IsRequestTo p.node)) (sym c.step.ensures.plan) (c.in_ok-came.ensures.asks lines)

pub returns-in_err-follow-clause-count : goal.returns-in_err-follow-clause-count
returns-in_err-follow-clause-count g c = let same = c.follow.ensures.followed.same.records in omega arith

pub returns-in_err-follow-clause-err : goal.returns-in_err-follow-clause-err
returns-in_err-follow-clause-err g c =
    let style = g.W.ReportWriter.style in
    let lines = g.K.LineSink.lines in
    let self = c.args.self.now in
    let files = g.T.Tree.files self.tree.now in
    let rec = c.args.rec.now in
    let node = c.step.new.self in
    let step = c.in_ok-came.ensures in
    let came = c.in_ok-came.came in
    let told = told_lines c.told-told.result in
    let request = request_ended node rec came in
    let to = came_to rec self.node.now node came told request c.step.ensures.plan c.step.ensures.keeps step.stands step.lines step.badcrc step.request c.told-told.ensures.line (ap (came_request came) (sym c.told-told.ensures.line)) in
    let part = c.in_err-follow.ensures.followed.err in
    on_err _ c.from_residual-in_err-follow.result (record {
      breaks = λ plan before past since h failed.
          broke_following plan before rec past (state_in style lines self) h node told request came.badcrc to files (style c.tell.new.writer) (lines c.tell.new.lines) (state_in style lines c.follow.new.self) _ since failed c.in_ok-tell.ensures.adds part;
      untold = record { told = part.untold.told ∙ c.tell.ensures.untold; count = part.untold.count; called = part.untold.called };
    })

pub returns-clause-ok : goal.returns-clause-ok
returns-clause-ok g c =
    let style = g.W.ReportWriter.style in
    let lines = g.K.LineSink.lines in
    let self = c.args.self.now in
    let files = g.T.Tree.files self.tree.now in
    let rec = c.args.rec.now in
    let node = c.step.new.self in
    let step = c.in_ok-came.ensures in
    let came = c.in_ok-came.came in
    let told = told_lines c.told-told.result in
    let request = request_ended node rec came in
    let to = came_to rec self.node.now node came told request c.step.ensures.plan c.step.ensures.keeps step.stands step.lines step.badcrc step.request c.told-told.ensures.line (ap (came_request came) (sym c.told-told.ensures.line)) in
    let written = style c.tell.new.writer in
    let put = lines c.tell.new.lines in
    let text = text_of c.args.gathered.now in
    let now = text_of c.tell.new.gathered in
    let after = text_of c.follow.new.gathered in
    let fin = state_in style lines c.follow.new.self in
    let same = c.follow.ensures.followed.same in
    let first : (types : Types) → AreTypesOf types node → HasTold (style self.writer.now) types told text now (lines self.lines.now) put = λ types are. record {
      gathered = c.in_ok-tell.ensures.text types (typed_by types (type_at node.table) c.told-told.result are c.told-told.ensures.typed);
      put = c.in_ok-tell.ensures.adds;
    } in
    let x = c.in_ok-follow.ensures.followed.ok in record {
      file = x.file;
      served = served_by files rec self.node.now node told request came.badcrc x.file to x.served;
      goes = λ plan before past few h.
          goes_behind plan before rec past (state_in style lines self) h node told request came.badcrc to x.file written put text now after c.tell.ensures.style first fin same.node same.over.style x.follows few c.of-seen-2.result c.held-2.result _
          c.of-seen-2.ensures.delivered c.of-seen-2.ensures.badcrc c.of-seen-2.ensures.nosession c.held-2.ensures.held c.held-2.ensures.bound c.count-2.ensures;
      fails = record { told = x.fails.told ∙ ap (λ o. put_behind o (failed_at (Heard rec x.file))) c.tell.ensures.untold; cause = x.fails.cause; called = x.fails.called };
    }
