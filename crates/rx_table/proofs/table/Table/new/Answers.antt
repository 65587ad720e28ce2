use Rattle.std.proofs.Common.{ap, sym, min, List}
use Rattle.rx_table.specs.declared.port.Port.{Port}
use Rattle.rx_table.specs.Table.{held_in}
use Rattle.rx_table.proofs.SubjectPlaces.{no_places}
use Rattle.rx_table.proofs.table.Table.new.Goals as goal

pub invariant_of-result : goal.invariant_of-result
invariant_of-result g c = record {
  sum = ap (λ (t : List (Port g.row.S.Denot)). min (held_in t) 18446744073709551615) (sym c.new-2.ensures.items);
  places = no_places 8192 c.in_ok-subjects.subjects c.new-2.result.items c.in_ok-subjects.ensures c.new-2.ensures.items;
}
