use Rattle.std.proofs.Common.{◌≡◌, ◌∙◌, ◌+◌, ◌-◌, ◌++◌, suc, List, [], map, length, length-append, refl, sym, ap, subst, arith, append-nil}
use Rattle.line_text.specs.Buffer.{text_of}
use Rattle.report_lines.specs.declared.line.Line.{Line}
use Rattle.node_core.specs.Keeps.{keeps}
use Rattle.report_lines.specs.LineSinks.{BeginsList}
use Rattle.node_core.specs.Queues.{Queue, drained, leaving, rounds, waiting}
use Rattle.node_core.specs.Steps.{Kept}
use Rattle.node_core.proofs.Steps.{on_err}
use Rattle.node_run.specs.Forms.{Types}
use Rattle.node_run.specs.Tells.{HasTold}
use Rattle.node_run.proofs.Drains.{line_more}
use Rattle.node_run.proofs.Tells.{begins_later, begins_more, put_of, told_all, told_in, told_more, told_none}
use Rattle.node_run.proofs.Waits.{waiting_left}
use Rattle.node_run.proofs.log.sending.empty.Goals as goal

pub loop-round-init : goal.loop-round-init
loop-round-init g c =
    let qs = (keeps c.args.node.now).queues in
    let most : c.waiting-most.result ≡ waiting qs = c.waiting-most.ensures in
    let n : c.waiting-most.result - 0 ≡ waiting qs = omega arith in record {
      done = [];
      most = most;
      style = refl;
      untold = refl;
      told = λ types. told_none (g.W.ReportWriter.style c.args.writer.now) types (text_of c.args.gathered.now) (g.K.LineSink.lines c.args.lines.now);
      leaves = sym (ap (λ m. rounds m c.args.moment qs) n);
      left = omega arith;
    }

pub loop-round-preserved : goal.loop-round-preserved
loop-round-preserved g c =
    let i = c.loop-round.invariant in
    let lines = g.K.LineSink.lines in
    let moment = c.args.moment in
    let style = g.W.ReportWriter.style c.args.writer.now in
    let all = (keeps c.args.node.now).queues in
    let qs = (keeps c.loop-round.node).queues in
    let test = c.loop-round-test.true in
    let m = c.waiting-most.result - (c.loop-round.round + 1) in
    let n : c.waiting-most.result - c.loop-round.round ≡ suc m = omega arith in
    let more = leaving moment qs in
    let now : (keeps c.drain.new.node).queues ≡ map drained qs = ap (λ (k : Kept). k.queues) c.in_ok-drain.ensures.keeps in
    let told : (types : Types) → HasTold style types more (text_of c.loop-round.gathered) (text_of c.drain.new.gathered) (lines c.loop-round.lines) (lines c.drain.new.lines) =
    λ types. told_in i.style types (c.in_ok-drain.ensures.told types) in
    let stay = waiting_left moment qs in
    let here = ap waiting now in
    let size = length-append i.done more in
    let before = i.left in record {
      done = i.done ++ more;
      most = i.most;
      style = c.drain.ensures.style ∙ i.style;
      untold = c.drain.ensures.untold ∙ i.untold;
      told = λ types. told_more style types i.done more (text_of c.args.gathered.now) (text_of c.loop-round.gathered) (text_of c.drain.new.gathered) (lines c.args.lines.now) (lines c.loop-round.lines) (lines c.drain.new.lines) (i.told types) (told types);
      leaves = line_more (rounds (waiting all) moment all) i.done (rounds (c.waiting-most.result - c.loop-round.round) moment qs) more (rounds m moment (keeps c.drain.new.node).queues) i.leaves (ap (λ k. rounds k moment qs) n ∙ ap (λ (x : List Queue). more ++ rounds m moment x) (sym now));
      left = omega (arith, size, stay, here, before);
    }

pub returns-in_err-drain-clause-err : goal.returns-in_err-drain-clause-err
returns-in_err-drain-clause-err g c =
    let i = c.loop-round.invariant in
    let lines = g.K.LineSink.lines in
    let moment = c.args.moment in
    let qs = (keeps c.loop-round.node).queues in
    let test = c.loop-round-test.true in
    let m = c.waiting-most.result - (c.loop-round.round + 1) in
    let n : c.waiting-most.result - c.loop-round.round ≡ suc m = omega arith in
    let more = leaving moment qs in
    let rest = rounds m moment (map drained qs) in
    on_err _ c.from_residual.result
    (subst (λ (ls : List Line). BeginsList ls (lines c.args.lines.now) (lines c.drain.new.lines)) (sym (i.leaves ∙ ap (λ k. i.done ++ rounds k moment qs) n))
    (begins_later i.done (more ++ rest) (lines c.args.lines.now) (lines c.loop-round.lines) (lines c.drain.new.lines) (put_of i.told) (begins_more more rest (lines c.loop-round.lines) (lines c.drain.new.lines) c.in_err-drain.ensures.err)))

pub returns-clause-told : goal.returns-clause-told
returns-clause-told g c =
    let i = c.loop-round.invariant in
    let moment = c.args.moment in
    let qs = (keeps c.args.node.now).queues in
    let now = (keeps c.loop-round.node).queues in
    let left = c.waiting-most.result - c.loop-round.round in
    let test = c.loop-round-test.false in
    let n : left ≡ 0 = omega arith in
    told_all (rounds (waiting qs) moment qs) i.done (rounds left moment now) i.leaves (ap (λ k. rounds k moment now) n) i.told

pub returns-clause-sent : goal.returns-clause-sent
returns-clause-sent g c =
    let i = c.loop-round.invariant in
    let test = c.loop-round-test.false in
    let end = c.loop-round.auto.round-end in
    let n : c.waiting-most.result - c.loop-round.round ≡ 0 = omega arith in
    let all = ap length (i.leaves ∙ (ap (λ k. i.done ++ rounds k c.args.moment (keeps c.loop-round.node).queues) n ∙ append-nil i.done)) in
    let most = i.most in
    let left = i.left in
    let now : c.waiting.result ≡ waiting (keeps c.loop-round.node).queues = c.waiting.ensures in omega (arith, all, most, left, now)
