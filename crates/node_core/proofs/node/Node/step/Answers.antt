use Rattle.std.proofs.Common.{false, None, sym}
use Rattle.tail_frame.specs.Frames.{seen}
use Rattle.node_core.specs.Came.{came_lines, IsHeardAs}
use Rattle.node_core.specs.Steps.{got}
use Rattle.node_core.proofs.Elsewhere.{takes_by, gives_none, ends_none}
use Rattle.node_core.proofs.HeardRecords.{asks, heard_as, heard_asks, heard_bad, heard_got, none_asks, none_got, none_heard, nothing_asks}
use Rattle.node_core.proofs.Steps.{frame_stands, stands_as_before, on_err}
use Rattle.node_core.proofs.node.Node.step.Goals as goal

pub returns-then-passes_by-clause-stands : goal.returns-then-passes_by-clause-stands
returns-then-passes_by-clause-stands c = takes_by c.args.self.now c.args.rec.now c.if-passes_by.ensures.elsewhere

pub returns-then-passes_by-clause-lines : goal.returns-then-passes_by-clause-lines
unfolding came_lines
returns-then-passes_by-clause-lines c = gives_none c.args.self.now c.args.rec.now c.if-passes_by.ensures.elsewhere

pub returns-then-passes_by-clause-badcrc : goal.returns-then-passes_by-clause-badcrc
returns-then-passes_by-clause-badcrc c = ends_none c.args.self.now c.args.rec.now c.if-passes_by.ensures.elsewhere

pub returns-in_ok-met-in-Some-clause-stands : goal.returns-in_ok-met-in-Some-clause-stands
returns-in_ok-met-in-Some-clause-stands c =
    frame_stands c.args.self.now c.hear.new.self c.args.rec.now _ c.hear.ensures.plan c.in-Some.ensures.value c.in_ok-met-in-Some.ensures.stands

pub returns-in_ok-met-in-Some-clause-lines : goal.returns-in_ok-met-in-Some-clause-lines
returns-in_ok-met-in-Some-clause-lines c =
    heard_got c.args.self.now c.hear.new.self c.args.rec.now _ _ _ c.in-Some.ensures.value c.in_ok-met-in-Some.ensures.lines

pub returns-in_ok-met-in-Some-clause-badcrc : goal.returns-in_ok-met-in-Some-clause-badcrc
returns-in_ok-met-in-Some-clause-badcrc c =
    heard_bad c.args.self.now c.hear.new.self c.args.rec.now _ _ _ c.in-Some.ensures.value c.ends_badly.ensures c.in_ok-met-in-Some.ensures.badcrc

pub returns-in_err-met-in-Some-clause-err : goal.returns-in_err-met-in-Some-clause-err
returns-in_err-met-in-Some-clause-err c =
    on_err _ c.from_residual.result (stands_as_before c.args.self.now c.hear.new.self c.hear.ensures.plan c.in_err-met-in-Some.ensures.err)

pub returns-in-None-clause-lines : goal.returns-in-None-clause-lines
returns-in-None-clause-lines c = λ past _. none_got c.args.self.now c.args.rec.now _ c.in-None.ensures.value past

pub returns-in_ok-met-in-Some-clause-asks : goal.returns-in_ok-met-in-Some-clause-asks
returns-in_ok-met-in-Some-clause-asks c = λ lines request.
    let ranges = c.in-Some.ensures.ranges in
    asks c.args.self.now.plan.node c.ends_badly.result c.in-Some.frame.ident c.in-Some.frame.tail c.in_ok-met-in-Some.met lines request ranges.1 c.in-Some.ensures.own ranges.0

pub returns-then-passes_by-clause-request : goal.returns-then-passes_by-clause-request
returns-then-passes_by-clause-request c = λ past s.
    let node = c.args.self.now in
    let rec = c.args.rec.now in
    nothing_asks node rec (record { badcrc = false; heard = None }) (got node.plan rec past) (gives_none node rec c.if-passes_by.ensures.elsewhere past s)

pub returns-in_ok-met-in-Some-clause-request : goal.returns-in_ok-met-in-Some-clause-request
returns-in_ok-met-in-Some-clause-request c = λ past _.
    let node = c.args.self.now in
    let rec = c.args.rec.now in
    heard_asks node rec (seen c.in-Some.frame) c.in_ok-met-in-Some.met c.ends_badly.result (got node.plan rec past) c.in-Some.ensures.value

pub returns-in-None-clause-request : goal.returns-in-None-clause-request
returns-in-None-clause-request c = λ past _.
    let node = c.args.self.now in
    none_asks node c.args.rec.now false (got node.plan c.args.rec.now past) c.in-None.ensures.value

pub returns-in_err-met-in-Some-clause-memory : goal.returns-in_err-met-in-Some-clause-memory
returns-in_err-met-in-Some-clause-memory c =
    on_err _ c.from_residual.result (seen c.in-Some.frame, (sym c.in-Some.ensures.value, c.in_err-met-in-Some.ensures.memory))

pub returns-then-passes_by-clause-heard : goal.returns-then-passes_by-clause-heard
unfolding IsHeardAs
returns-then-passes_by-clause-heard c = λ f e. c.if-passes_by.ensures.elsewhere c.args.self.now.plan.node f e

pub returns-in_ok-met-in-Some-clause-heard : goal.returns-in_ok-met-in-Some-clause-heard
returns-in_ok-met-in-Some-clause-heard c =
    heard_as c.args.self.now c.hear.new.self c.args.rec.now (seen c.in-Some.frame) c.in_ok-met-in-Some.met c.in-Some.ensures.value c.if-passes_by.ensures.port c.in_ok-met-in-Some.ensures.met

pub returns-in-None-clause-heard : goal.returns-in-None-clause-heard
returns-in-None-clause-heard c = none_heard c.args.self.now c.args.self.now c.args.rec.now c.in-None.ensures.value
