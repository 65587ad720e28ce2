use Rattle.std.proofs.Common.{◌≡◌, ◌∙◌, ◌<◌, ◌^◌, length, Some, option_map, refl, sym, ap, subst, arith}
use Rattle.std.specs.Option.{option_map as map_of}
use Rattle.tail_frame.specs.Frames.{frame_of, seen}
use Rattle.log_explain.specs.Lines.{line_on}
use Rattle.log_explain.specs.Places.{slot_at}
use Rattle.log_explain.specs.Slots.{IsCounted, IsLine}
use Rattle.log_explain.specs.declared.line.FrameLine.{FrameLine}
use Rattle.log_explain.proofs.Frames.{led}
use Rattle.log_explain.proofs.Heard.{said_at}
use Rattle.log_explain.proofs.Nodes.{hears, w}
use Rattle.log_explain.proofs.explaining.Explaining.hear_message.Goals as goal

pub reason_at-requires : goal.reason_at-requires
reason_at-requires c =
    led c.args.self.now.node c.args.rec.now (seen c.in-Some.frame) c.args.place (sym c.frame_of.ensures.value ∙ ap (map_of seen) c.in-Some.is) c.in-Some.ensures.ranges.2 c.requires.leads

pub returns-in-Some-reason_at-clause-heard : goal.returns-in-Some-reason_at-clause-heard
returns-in-Some-reason_at-clause-heard c plan past h =
    let old = c.args.self.now in
    let rec = c.args.rec.now in
    let f = seen c.in-Some.frame in
    let place = c.args.place in
    let source = c.in-Some-sender_of.source in
    let slot = c.slot_of-slot.result in
    let frame : frame_of rec ≡ Some f = sym c.frame_of.ensures.value ∙ ap (map_of seen) c.in-Some.is in
    let ident = c.in-Some.ensures.ranges.2 in
    let same = c.in-Some.ensures.place in
    let at = led old.node rec f place frame ident c.requires.leads in
    let few : length past < 2 ^ 28 = omega (arith, c.requires.few, h.records) in
    let new = c.add.new.self.by_slot.items in
    let is = c.line_with-line.ensures in
    let counted = subst (λ (l : FrameLine). IsCounted old.tallies.by_slot.items new l (Some slot)) is c.add.ensures in
    let tells = c.in-Some-reason_at.ensures old.node.plan.node c.in-Some-sender_of.ensures.aside in
    let line = subst (λ (l : FrameLine). IsLine (w plan old past h) new past l (line_on (w plan old past h) rec past)) (sym is)
    (said_at plan old past h few rec f frame same.0 same.1 same.2 ident place at new (Some slot) c.last_line-last.result c.in-Some-reason_at.reason
    (λ low. ap Some (c.slot_of-slot.ensures low) ∙ sym (ap (option_map (slot_at place)) c.in-Some-sender_of.ensures.source))
    c.last_line-last.ensures tells counted) in
    hears plan old _ past rec c.line_with-line.result _ _ h line c.take_message.ensures.plan c.put.ensures.names (c.in_ok-take_message.ensures.takes past h.stands) refl c.put.ensures.text
