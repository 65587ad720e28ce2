use Rattle.std.proofs.Common.{◌≡◌, ◌∙◌, Some, ap, sym}
use Rattle.frame_log.specs.Line.{bus_at}
use Rattle.frame_log.proofs.ReadsLemmas.{bus-reads}
use Rattle.frame_log.proofs.buses.Name.new.Goals as goal

pub returns : goal.returns
returns c = λ _.
    let at : bus_at c.args.buses.now c.in-Some.name.now ≡ Some c.args.k = sym c.in-Some-bus_at.ensures.value ∙ ap Some c.if-found-k.false in
    bus-reads c.args.buses.now _ c.in-Some.name.now c.in-Some.field-0-1.now c.args.k (sym c.in-Some.ensures) at (c.is_clean.ensures c.if-not-is_clean.false)
