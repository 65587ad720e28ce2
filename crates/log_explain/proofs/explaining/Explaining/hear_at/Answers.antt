use Rattle.std.proofs.Common.{◌∙◌, ◌<◌, ◌^◌, List, length, option_map, refl, sym, ap, subst, arith}
use Rattle.can_id.specs.declared.key.Key.{Key}
use Rattle.tail_frame.specs.Frames.{seen}
use Rattle.log_explain.specs.Lines.{line_on}
use Rattle.log_explain.specs.Places.{slot_at}
use Rattle.log_explain.specs.Slots.{IsCounted, IsLine}
use Rattle.log_explain.specs.declared.line.FrameLine.{FrameLine}
use Rattle.log_explain.specs.declared.tally.Tally.{Tally}
use Rattle.log_explain.proofs.Heard.{said_at}
use Rattle.log_explain.proofs.Nodes.{hears, w}
use Rattle.log_explain.proofs.explaining.Explaining.hear_at.Goals as goal

pub returns-clause-heard : goal.returns-clause-heard
returns-clause-heard c plan past h =
    let old = c.args.self.now in
    let rec = c.args.rec.now in
    let f = seen c.args.frame.now in
    let r = c.requires in
    let few : length past < 2 ^ 28 = omega (arith, r.few, h.records) in
    let new = c.count.new.tallies.by_slot.items in
    let slot = c.slot_on-slot.result in
    let is = c.line_with-line.ensures in
    let kept = subst (λ (ts : List Tally). IsCounted ts new c.line_with-line.result slot) (λ i. (c.keep_hint.ensures i).items) c.count.ensures in
    let counted = subst (λ (l : FrameLine). IsCounted old.tallies.by_slot.items new l slot) is kept in
    let line = subst (λ (l : FrameLine). IsLine (w plan old past h) new past l (line_on (w plan old past h) rec past)) (sym is)
    (said_at plan old past h few rec f r.frame r.line r.moment r.bus r.ident c.args.place r.place new slot c.last_line-last.result c.reason_of_frame-reason.result
    (λ low. c.slot_on-slot.ensures low ∙ ap (λ (k : Key). option_map (slot_at c.args.place) k.source) c.key-key.ensures)
    c.last_line-last.ensures c.reason_of_frame-reason.ensures counted) in
    hears plan old _ past rec c.line_with-line.result _ _ h line c.in_ok-take.ensures.plan c.put.ensures.names (c.in_ok-take.ensures.takes past h.stands) refl c.put.ensures.text
