use Rattle.std.proofs.Common.{◌≡◌, ◌∙◌, ◌+◌, ◌-◌, ◌++◌, ◌∷◌, [], List, map, suc, refl, sym, ap, arith}
use Rattle.line_text.specs.Buffer.{text_of}
use Rattle.node_core.specs.Keeps.{keeps}
use Rattle.node_core.specs.Pops.{queue_at, with_waiting}
use Rattle.node_core.specs.Queues.{Queue, bus_lines, leave, stay, tx_line}
use Rattle.node_core.proofs.Steps.{on_err}
use Rattle.node_run.proofs.Drains.{set_same, gave_none, gave_some, in_reach, leave_none, stay_none, line_more}
use Rattle.node_run.proofs.Tells.{broke_at, put_of, told_all, told_next, told_none}
use Rattle.node_run.proofs.SameNodes.{same_by, same_then, still}
use Rattle.node_run.proofs.log.sending.drain_bus.Goals as goal

pub pop_out-requires : goal.pop_out-requires
pop_out-requires g c = let old = keeps c.args.node.now in in_reach old.queues c.args.bus old c.loop-turn.invariant.waits (keeps c.loop-turn.node) c.requires c.loop-turn.invariant.keeps_are

pub loop-turn-init : goal.loop-turn-init
loop-turn-init g c =
    let old = keeps c.args.node.now in
    let q = queue_at old.queues c.args.bus in
    let n : c.rate-rate.result - 0 ≡ q.rate = let e = c.rate-rate.ensures in omega arith in record {
      waits = q.waiting;
      done = [];
      same = still c.args.node.now;
      style = refl;
      untold = refl;
      keeps_are = ap (λ (qs : List Queue). record old { queues = qs }) (sym (set_same old.queues c.args.bus));
      rate = c.rate-rate.ensures;
      told = λ types. told_none (g.W.ReportWriter.style c.args.writer.now) types (text_of c.args.gathered.now) (g.K.LineSink.lines c.args.lines.now);
      leaves = sym (ap (λ m. map (tx_line c.args.moment c.args.bus) (leave m q.waiting)) n);
      stays = ap (λ m. stay m q.waiting) n;
    }

pub loop-turn-preserved : goal.loop-turn-preserved
loop-turn-preserved g c =
    let i = c.loop-turn.invariant in
    let lines = g.K.LineSink.lines in
    let style = g.W.ReportWriter.style in
    let old = keeps c.args.node.now in
    let v = gave_some old.queues c.args.bus old i.waits (keeps c.loop-turn.node) (keeps c.pop_out.new.self) _ c.requires i.keeps_are c.pop_out.ensures.pops c.in-Some.frame c.in-Some.is in
    let test = c.loop-turn-test.true in
    let m = c.rate-rate.result - (c.loop-turn.turn + 1) in
    let n : c.rate-rate.result - c.loop-turn.turn ≡ suc m = omega arith in
    let tx = tx_line c.args.moment c.args.bus in record {
      waits = v.rest;
      done = i.done ++ tx c.in-Some.frame ∷ [];
      same = same_then i.same (same_by c.pop_out.ensures.plan c.pop_out.ensures.latest c.pop_out.ensures.stands);
      style = c.tell.ensures.style ∙ i.style;
      untold = c.tell.ensures.untold ∙ i.untold;
      keeps_are = v.keeps;
      rate = i.rate;
      told = λ types. told_next (style c.args.writer.now) (style c.loop-turn.writer) types i.done (tx c.in-Some.frame ∷ []) (text_of c.args.gathered.now) (text_of c.loop-turn.gathered) (text_of c.tell.new.gathered) (lines c.args.lines.now) (lines c.loop-turn.lines) (lines c.tell.new.lines) i.style (i.told types) (c.in_ok-tell.ensures.text types tt) c.in_ok-tell.ensures.adds;
      leaves = line_more _ i.done (map tx (leave (c.rate-rate.result - c.loop-turn.turn) i.waits)) (tx c.in-Some.frame ∷ []) (map tx (leave m v.rest)) i.leaves (ap (λ k. map tx (leave k i.waits)) n ∙ ap (map tx) (v.leaves m));
      stays = sym (v.stays m) ∙ (ap (λ k. stay k i.waits) (sym n) ∙ i.stays);
    }

pub returns-in_default-clause-same : goal.returns-in_default-clause-same
returns-in_default-clause-same g c = same_then c.loop-turn.invariant.same (same_by c.pop_out.ensures.plan c.pop_out.ensures.latest c.pop_out.ensures.stands)

pub returns-in_default-clause-keeps : goal.returns-in_default-clause-keeps
returns-in_default-clause-keeps g c =
    let i = c.loop-turn.invariant in
    let old = keeps c.args.node.now in
    let m = c.rate-rate.result - c.loop-turn.turn in
    let v = gave_none old.queues c.args.bus old i.waits (keeps c.loop-turn.node) (keeps c.pop_out.new.self) _ c.requires i.keeps_are c.pop_out.ensures.pops c.in_default.not-Some in
    let s : i.waits ≡ stay (queue_at old.queues c.args.bus).rate (queue_at old.queues c.args.bus).waiting = v.0 ∙ (sym (stay_none m) ∙ (ap (stay m) (sym v.0) ∙ i.stays)) in
    v.1 ∙ ap (λ w. record old { queues = with_waiting old.queues c.args.bus w }) s

pub returns-in_default-clause-told : goal.returns-in_default-clause-told
returns-in_default-clause-told g c =
    let i = c.loop-turn.invariant in
    let old = keeps c.args.node.now in
    let m = c.rate-rate.result - c.loop-turn.turn in
    let q = queue_at old.queues c.args.bus in
    let tx = tx_line c.args.moment c.args.bus in
    let v = gave_none old.queues c.args.bus old i.waits (keeps c.loop-turn.node) (keeps c.pop_out.new.self) _ c.requires i.keeps_are c.pop_out.ensures.pops c.in_default.not-Some in
    told_all (bus_lines c.args.moment c.args.bus q) i.done (map tx (leave m i.waits)) i.leaves (ap (λ w. map tx (leave m w)) v.0 ∙ ap (map tx) (leave_none m)) i.told

pub returns-clause-told : goal.returns-clause-told
returns-clause-told g c =
    let i = c.loop-turn.invariant in
    let q = queue_at (keeps c.args.node.now).queues c.args.bus in
    let m = c.rate-rate.result - c.loop-turn.turn in
    let tx = tx_line c.args.moment c.args.bus in
    let test = c.loop-turn-test.false in
    let n : m ≡ 0 = omega arith in
    told_all (bus_lines c.args.moment c.args.bus q) i.done (map tx (leave m i.waits)) i.leaves (ap (λ k. map tx (leave k i.waits)) n) i.told

pub returns-in_err-tell-clause-err : goal.returns-in_err-tell-clause-err
returns-in_err-tell-clause-err g c =
    let i = c.loop-turn.invariant in
    let lines = g.K.LineSink.lines in
    let q = queue_at (keeps c.args.node.now).queues c.args.bus in
    let rest = map (tx_line c.args.moment c.args.bus) (leave (c.rate-rate.result - c.loop-turn.turn) i.waits) in
    on_err _ c.from_residual.result (broke_at (bus_lines c.args.moment c.args.bus q) i.done rest (lines c.args.lines.now) (lines c.loop-turn.lines) (lines c.tell.new.lines) i.leaves (put_of i.told) c.in_err-tell.ensures.err)

pub returns-in_err-tell-clause-same : goal.returns-in_err-tell-clause-same
returns-in_err-tell-clause-same g c = same_then c.loop-turn.invariant.same (same_by c.pop_out.ensures.plan c.pop_out.ensures.latest c.pop_out.ensures.stands)
