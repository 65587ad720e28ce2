use Rattle.std.proofs.Common.{◌≡◌, ◌∙◌, ◌<◌, ◌^◌, length, refl, sym, ap, subst, arith}
use Rattle.tail_frame.specs.Frames.{seen}
use Rattle.log_explain.specs.Lines.{line_on}
use Rattle.log_explain.specs.Slots.{IsLine, line_with, passing}
use Rattle.log_explain.specs.declared.line.FrameLine.{FrameLine}
use Rattle.log_explain.proofs.Heard.{said_passing, stands_still}
use Rattle.log_explain.proofs.Nodes.{hears, w}
use Rattle.log_explain.proofs.explaining.Explaining.pass_by.Goals as goal

pub returns-clause-heard : goal.returns-clause-heard
returns-clause-heard c plan past h =
    let old = c.args.self.now in
    let rec = c.args.rec.now in
    let f = seen c.args.frame.now in
    let r = c.requires in
    let few : length past < 2 ^ 28 = omega (arith, r.few, h.records) in
    let is : c.line_with-line.result ≡ line_with f (passing old.node.plan.node f.ident) = c.line_with-line.ensures ∙ ap (line_with f) c.passing.ensures in
    let line = subst (λ (l : FrameLine). IsLine (w plan old past h) old.tallies.by_slot.items past l (line_on (w plan old past h) rec past)) (sym is)
    (said_passing plan old past h few rec f r.frame r.line r.moment r.bus r.ident r.nowhere) in
    hears plan old _ past rec c.line_with-line.result _ _ h line refl c.put.ensures.names (stands_still plan old past h few rec f r.frame r.line r.moment r.bus r.ident r.nowhere) refl c.put.ensures.text
