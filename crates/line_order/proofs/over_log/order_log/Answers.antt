use Rattle.std.proofs.Common.{ℕ, subst}
use Rattle.line_loop.specs.Gone.{HasGone}
use Rattle.line_loop.specs.Reply.{voice}
use Rattle.line_loop.specs.Streamed.{IsStreamed}
use Rattle.line_loop.specs.declared.bounds.LineBounds.{LineBounds}
use Rattle.line_order.specs.Answers.{Answers, AreLast, bad_line, order_voice}
use Rattle.line_order.proofs.LawLemmas.{gone_sorted}
use Rattle.line_order.proofs.over_log.order_log.Goals as goal

pub returns-clause-gone : goal.returns-clause-gone
returns-clause-gone g c =
    let left = g.L.Source.left in
    let written = g.O.Sink.written in
    subst (λ (n : ℕ). HasGone (order_voice n) (left c.args.input.now) (left c.listen_lines.new.input) c.listen_lines.result (written c.args.out.now) (written c.listen_lines.new.out)) c.new-orderer.ensures.window
    (subst (λ (b : LineBounds). HasGone (voice (Answers c.new-orderer.result.window) (AreLast c.new-orderer.result.window) bad_line b) (left c.args.input.now) (left c.listen_lines.new.input) c.listen_lines.result (written c.args.out.now) (written c.listen_lines.new.out))
    c.bounds.ensures c.listen_lines.ensures.gone)

pub returns-clause-streamed : goal.returns-clause-streamed
returns-clause-streamed g c =
    let left = g.L.Source.left in
    let written = g.O.Sink.written in
    subst (λ (n : ℕ). IsStreamed (order_voice n) (left c.args.input.now) (left c.listen_lines.new.input) (written c.args.out.now) (written c.listen_lines.new.out)) c.new-orderer.ensures.window
    (subst (λ (b : LineBounds). IsStreamed (voice (Answers c.new-orderer.result.window) (AreLast c.new-orderer.result.window) bad_line b) (left c.args.input.now) (left c.listen_lines.new.input) (written c.args.out.now) (written c.listen_lines.new.out))
    c.bounds.ensures c.listen_lines.ensures.streamed)

pub returns-clause-sorted : goal.returns-clause-sorted
returns-clause-sorted g c e =
    let left = g.L.Source.left in
    let written = g.O.Sink.written in
    gone_sorted c.args.window (left c.args.input.now) (left c.listen_lines.new.input) (written c.args.out.now) (written c.listen_lines.new.out)
    (subst (λ f. HasGone (order_voice c.args.window) (left c.args.input.now) (left c.listen_lines.new.input) f (written c.args.out.now) (written c.listen_lines.new.out)) e (returns-clause-gone g c))
