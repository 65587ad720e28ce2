use Rattle.std.proofs.Common.{◌≡◌, ◌∙◌, ◌+◌, ◌<◌, ◌≤◌, ◌++◌, List, [], drop, refl, sym, ap, subst}
use Rattle.std.proofs.lemmas.List.{drop_all}
use Rattle.line_text.specs.Buffer.{text_of}
use Rattle.report_lines.specs.declared.line.Line.{Line}
use Rattle.node_core.specs.Keeps.{keeps}
use Rattle.report_lines.specs.LineSinks.{BeginsList}
use Rattle.node_core.specs.Pops.{queue_at}
use Rattle.node_core.specs.Queues.{Queue, bus_lines, leaving, leaving_from}
use Rattle.node_core.specs.Steps.{Kept}
use Rattle.node_core.proofs.Steps.{on_err}
use Rattle.node_run.specs.Forms.{Types}
use Rattle.node_run.specs.Leaves.{bus_left}
use Rattle.node_run.specs.Tells.{HasTold}
use Rattle.node_run.proofs.Drains.{at_bus, in_done, line_more, next_done, next_lines}
use Rattle.node_run.proofs.Tells.{begins_later, begins_more, put_of, told_all, told_in, told_more, told_none}
use Rattle.node_run.proofs.SameNodes.{same_then, still}
use Rattle.node_run.proofs.log.sending.drain_buses.Goals as goal

pub drain_bus-requires : goal.drain_bus-requires
drain_bus-requires g c =
    let old = keeps c.args.node.now in
    in_done old.queues c.loop-bus.bus old (keeps c.loop-bus.node) (subst (λ n. c.loop-bus.bus < n) c.buses-buses.ensures c.loop-bus-test.true) c.loop-bus.invariant.keeps_are

pub loop-bus-init : goal.loop-bus-init
loop-bus-init g c = record {
  done = [];
  same = still c.args.node.now;
  style = refl;
  untold = refl;
  keeps_are = refl;
  told = λ types. told_none (g.W.ReportWriter.style c.args.writer.now) types (text_of c.args.gathered.now) (g.K.LineSink.lines c.args.lines.now);
  leaves = refl;
}

pub loop-bus-preserved : goal.loop-bus-preserved
loop-bus-preserved g c =
    let i = c.loop-bus.invariant in
    let lines = g.K.LineSink.lines in
    let old = keeps c.args.node.now in
    let bus = c.loop-bus.bus in
    let moment = c.args.moment in
    let style = g.W.ReportWriter.style c.args.writer.now in
    let within : bus < _ = subst (λ n. bus < n) c.buses-buses.ensures c.loop-bus-test.true in
    let q : queue_at (keeps c.loop-bus.node).queues bus ≡ queue_at old.queues bus = ap (λ (k : Kept). queue_at k.queues bus) i.keeps_are ∙ at_bus old.queues bus within in
    let more = bus_lines moment bus (queue_at old.queues bus) in
    let told : (types : Types) → HasTold style types more (text_of c.loop-bus.gathered) (text_of c.drain_bus.new.gathered) (lines c.loop-bus.lines) (lines c.drain_bus.new.lines) =
    λ types. subst (λ (ls : List Line). HasTold style types ls (text_of c.loop-bus.gathered) (text_of c.drain_bus.new.gathered) (lines c.loop-bus.lines) (lines c.drain_bus.new.lines)) (ap (bus_lines moment bus) q)
    (told_in i.style types (c.in_ok-drain_bus.ensures.told types)) in record {
      done = i.done ++ more;
      same = same_then i.same c.drain_bus.ensures.same;
      style = c.drain_bus.ensures.style ∙ i.style;
      untold = c.drain_bus.ensures.untold ∙ i.untold;
      keeps_are = c.in_ok-drain_bus.ensures.keeps ∙ (ap (λ (k : Kept). bus_left k bus) i.keeps_are ∙ next_done old.queues bus within old);
      told = λ types. told_more style types i.done more (text_of c.args.gathered.now) (text_of c.loop-bus.gathered) (text_of c.drain_bus.new.gathered) (lines c.args.lines.now) (lines c.loop-bus.lines) (lines c.drain_bus.new.lines) (i.told types) (told types);
      leaves = line_more (leaving moment old.queues) i.done (leaving_from moment bus (drop bus old.queues)) more (leaving_from moment (bus + 1) (drop (bus + 1) old.queues)) i.leaves (next_lines old.queues bus within moment);
    }

pub returns-in_err-drain_bus-clause-err : goal.returns-in_err-drain_bus-clause-err
returns-in_err-drain_bus-clause-err g c =
    let i = c.loop-bus.invariant in
    let lines = g.K.LineSink.lines in
    let old = keeps c.args.node.now in
    let bus = c.loop-bus.bus in
    let moment = c.args.moment in
    let within : bus < _ = subst (λ n. bus < n) c.buses-buses.ensures c.loop-bus-test.true in
    let q : queue_at (keeps c.loop-bus.node).queues bus ≡ queue_at old.queues bus = ap (λ (k : Kept). queue_at k.queues bus) i.keeps_are ∙ at_bus old.queues bus within in
    let more = bus_lines moment bus (queue_at old.queues bus) in
    let rest = leaving_from moment (bus + 1) (drop (bus + 1) old.queues) in
    let b : BeginsList more (lines c.loop-bus.lines) (lines c.drain_bus.new.lines) = subst (λ (x : Queue). BeginsList (bus_lines moment bus x) (lines c.loop-bus.lines) (lines c.drain_bus.new.lines)) q c.in_err-drain_bus.ensures.err in
    on_err _ c.from_residual.result
    (subst (λ (ls : List Line). BeginsList ls (lines c.args.lines.now) (lines c.drain_bus.new.lines)) (sym (i.leaves ∙ ap (λ t. i.done ++ t) (next_lines old.queues bus within moment)))
    (begins_later i.done (more ++ rest) (lines c.args.lines.now) (lines c.loop-bus.lines) (lines c.drain_bus.new.lines) (put_of i.told) (begins_more more rest (lines c.loop-bus.lines) (lines c.drain_bus.new.lines) b)))

pub returns-in_err-drain_bus-clause-same : goal.returns-in_err-drain_bus-clause-same
returns-in_err-drain_bus-clause-same g c = same_then c.loop-bus.invariant.same c.drain_bus.ensures.same

pub returns-clause-told : goal.returns-clause-told
returns-clause-told g c =
    let i = c.loop-bus.invariant in
    let qs = (keeps c.args.node.now).queues in
    let bus = c.loop-bus.bus in
    let moment = c.args.moment in
    let none : drop bus qs ≡ [] = drop_all bus qs (subst (λ n. n ≤ bus) c.buses-buses.ensures c.loop-bus-test.false) in
    told_all (leaving moment qs) i.done (leaving_from moment bus (drop bus qs)) i.leaves (ap (leaving_from moment bus) none) i.told
