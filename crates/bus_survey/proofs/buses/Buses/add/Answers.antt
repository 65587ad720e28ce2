use Rattle.std.proofs.Common.{◌≡◌, ◌∙◌, List, ap, get_or, arith}
use Rattle.bus_survey.specs.Buses.{kept_records, on_bus}
use Rattle.bus_survey.specs.declared.bus_counts.BusCounts.{BusCounts}
use Rattle.bus_survey.proofs.BusLemmas.{at_bus, bus_more}
use Rattle.bus_survey.proofs.CountLemmas.{on_bus_few}
use Rattle.bus_survey.proofs.buses.Buses.add.Goals as goal

pub returns-then-bus-lt3 : goal.returns-then-bus-lt3
returns-then-bus-lt3 c = λ past few are.
    let rec = c.args.rec.now in
    let was : (d : BusCounts) → get_or c.args.self.now.counts rec.bus d ≡ kept_records (on_bus rec.bus past) =
    λ d. ap (λ (xs : List BusCounts). get_or xs rec.bus d) are ∙ at_bus past rec.bus d c.if-bus-lt3.true in
    bus_more rec past c.args.self.now.counts c.add.new.self are c.if-bus-lt3.true
    (c.add.ensures (on_bus rec.bus past) (omega (arith, few, on_bus_few rec.bus past)) (was _))
