use Rattle.std.proofs.Common.{◌<◌, ◌^◌, length, None, refl, arith}
use Rattle.rx_table.specs.Ports.{ports_of}
use Rattle.log_explain.specs.declared.reasons.reason.Reason.TheVariants.{Discarded}
use Rattle.log_explain.proofs.Discards.{no_frame_read, read_rule}
use Rattle.node_core.proofs.Elsewhere.{takes_by}
use Rattle.log_explain.specs.declared.line.FrameLine.{FrameLine}
use Rattle.log_explain.proofs.Frames.{none_elsewhere}
use Rattle.log_explain.proofs.Nodes.{hears, ps, stands, w}
use Rattle.log_explain.proofs.Said.{none_line}
use Rattle.log_explain.proofs.explaining.Explaining.hear_none.Goals as goal

pub returns-clause-heard : goal.returns-clause-heard
returns-clause-heard c plan past h =
    let old = c.args.self.now in
    let rec = c.args.rec.now in
    let why = c.args.why in
    let few : length past < 2 ^ 28 = omega (arith, c.requires.few, h.records) in
    let line : FrameLine = record { line = rec.line; moment = rec.moment; bus = rec.bus; transfer = None; reason = Discarded why } in
    let is = none_line (w plan old past h) (ps plan old past h) old.tallies.by_slot.items rec past why c.requires.why (stands plan old past h few) in
    let none = no_frame_read rec why (read_rule rec why c.requires.why) in
    let still = takes_by old.node rec (none_elsewhere (ports_of (ps plan old past h)) rec none) past h.stands in
    hears plan old _ past rec line _ _ h is refl c.put.ensures.names still refl c.put.ensures.text
